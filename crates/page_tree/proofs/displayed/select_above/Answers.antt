use Rattle.std.proofs.Common.{true, false, sym, ◌∙◌, arith}
use Rattle.page_tree.specs.Inside.{rows_of, ups_of}
use Rattle.page_tree.specs.Display.{is_select}
use Rattle.page_tree.proofs.Displays.{find_up, find_top, find_end}
use Rattle.page_tree.proofs.displayed.select_above.Goals as goal

pub returns-then-is_select : goal.returns-then-is_select
returns-then-is_select c =
    sym (c.loop-i.invariant ∙ find_up (is_select (rows_of c.args.nodes.now)) 200 c.loop-i._i (ups_of c.args.nodes.now) c.loop-i.at c.in-Some.up true (omega arith) c.in-Some.ensures (sym c.is_select.ensures ∙ c.if-is_select.true))

pub returns-in-None : goal.returns-in-None
returns-in-None c =
    sym (c.loop-i.invariant ∙ find_top (is_select (rows_of c.args.nodes.now)) 200 c.loop-i._i (ups_of c.args.nodes.now) c.loop-i.at (omega arith) c.in-None.ensures)

pub loop-i-preserved : goal.loop-i-preserved
loop-i-preserved c =
    c.loop-i.invariant ∙ find_up (is_select (rows_of c.args.nodes.now)) 200 c.loop-i._i (ups_of c.args.nodes.now) c.loop-i.at c.in-Some.up false (omega arith) c.in-Some.ensures (sym c.is_select.ensures ∙ c.if-is_select.false)

pub returns : goal.returns
returns c = sym (c.loop-i.invariant ∙ find_end (is_select (rows_of c.args.nodes.now)) 200 c.loop-i._i (ups_of c.args.nodes.now) c.loop-i.at (omega arith))
