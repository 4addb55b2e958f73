use Rattle.std.proofs.Common.{◌-◌, sym, ◌∙◌}
use Rattle.page_tree.specs.Inside.{rows_of, ups_of}
use Rattle.page_tree.specs.Display.{is_select}
use Rattle.page_tree.proofs.Displays.{any_here}
use Rattle.page_tree.proofs.displayed.is_under_select.Goals as goal

pub returns-then-is_select : goal.returns-then-is_select
returns-then-is_select c =
    sym (c.loop-i.invariant ∙ any_here (is_select (rows_of c.args.nodes.now)) (200 - c.loop-i._i) (ups_of c.args.nodes.now) c.loop-i.at (sym c.is_select.ensures ∙ c.if-is_select.true))
