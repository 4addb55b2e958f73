use Rattle.std.proofs.Common.{◌-◌, sym, ◌∙◌}
use Rattle.page_tree.specs.Inside.{rows_of, ups_of}
use Rattle.page_tree.specs.Display.{hides}
use Rattle.page_tree.proofs.Displays.{any_here}
use Rattle.page_tree.proofs.shown.is_under_hidden.Goals as goal

pub returns-then-hides : goal.returns-then-hides
returns-then-hides c =
    sym (c.loop-i.invariant ∙ any_here (hides (rows_of c.args.nodes.now)) (200 - c.loop-i._i) (ups_of c.args.nodes.now) c.loop-i.at (sym c.hides.ensures ∙ c.if-hides.true))
