use Rattle.std.proofs.Common.{◌≡◌, ◌-◌, ◌<◌, ◌∷◌, ◌++◌, take}
use Rattle.std.specs.List.{All, flat_map}
use Rattle.page_tree.specs.Places.{walk}
use Rattle.page_tree.specs.Rows.{count}
use Rattle.selectors.proofs.candidates.+walk.Given as goal

abbrev pub decreases-walk : goal.decreases-walk
decreases-walk l = l.steps

abbrev pub invariant-loop-kid : goal.invariant-loop-kid
invariant-loop-kid l =
    let rows = l.document.rows in
    record {
      found_in : All (λ n. n < count rows) l.found;
      same : l.found ≡ l.fn.found ++ l.fn.node ∷ flat_map (walk (l.steps - 1) rows.kids) (take l.kid-index l.kid-items);
    }
