use Rattle.std.proofs.Common.{◌≡◌, ◌-◌}
use Rattle.std.specs.List.{list_any}
use Rattle.page_tree.specs.Places.{chain, lineage}
use Rattle.page_tree.specs.Inside.{rows_of, ups_of}
use Rattle.page_tree.specs.Display.{is_select}
use Rattle.page_tree.proofs.displayed.is_under_select.Given as goal

abbrev pub invariant-loop-i : goal.invariant-loop-i
invariant-loop-i l = list_any (is_select (rows_of l.nodes)) (lineage (ups_of l.nodes) l.fn.node) ≡ list_any (is_select (rows_of l.nodes)) (chain (200 - l._i) (ups_of l.nodes) l.at)
