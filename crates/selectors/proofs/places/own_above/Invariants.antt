use Rattle.std.proofs.Common.{◌≡◌, ◌-◌, ◌<◌, ◌++◌, drop}
use Rattle.std.specs.List.{All}
use Rattle.page_tree.specs.Places.{chain, own_ups}
use Rattle.page_tree.specs.Rows.{count}
use Rattle.selectors.specs.Siblings.{own_above}
use Rattle.selectors.proofs.places.own_above.Given as goal

abbrev pub invariant-loop-i : goal.invariant-loop-i
invariant-loop-i l =
    let rows = l.document.rows in
    record {
      within : l.at < count rows;
      found_in : All (λ n. n < count rows) l.found;
      same : own_above rows l.fn.node ≡ l.found ++ drop 1 (chain (200 - l._i) (own_ups rows.ups rows.shadows) l.at);
    }
