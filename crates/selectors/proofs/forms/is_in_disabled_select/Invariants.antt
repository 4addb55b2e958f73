use Rattle.std.proofs.Common.{◌≡◌, ◌-◌, ◌<◌, drop}
use Rattle.std.specs.List.{list_any}
use Rattle.page_tree.specs.Places.{chain}
use Rattle.page_tree.specs.Rows.{count}
use Rattle.selectors.specs.Siblings.{above}
use Rattle.selectors.specs.Forms.{is_disabled_select}
use Rattle.selectors.proofs.forms.is_in_disabled_select.Given as goal

abbrev pub invariant-loop-i : goal.invariant-loop-i
invariant-loop-i l =
    let rows = l.document.rows in
    record {
      within : l.at < count rows;
      same : list_any (is_disabled_select rows) (above rows l.fn.node) ≡ list_any (is_disabled_select rows) (drop 1 (chain (200 - l._i) rows.ups l.at));
    }
