use Rattle.std.proofs.Common.{◌≡◌, ◌-◌, drop}
use Rattle.std.specs.List.{find}
use Rattle.page_tree.specs.Places.{chain}
use Rattle.page_tree.specs.Inside.{rows_of, ups_of}
use Rattle.page_tree.specs.Display.{is_select, select_above}
use Rattle.page_tree.proofs.displayed.select_above.Given as goal

abbrev pub invariant-loop-i : goal.invariant-loop-i
invariant-loop-i l = select_above (rows_of l.nodes) l.fn.node ≡ find (is_select (rows_of l.nodes)) (drop 1 (chain (200 - l._i) (ups_of l.nodes) l.at))
