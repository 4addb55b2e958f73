use Rattle.std.proofs.Common.{true, false, sym, ap, ◌∙◌, arith}
use Rattle.std.specs.List.{list_any}
use Rattle.selectors.specs.Forms.{is_disabled_select}
use Rattle.selectors.proofs.Above.{any_up, above_top, above_end}
use Rattle.selectors.proofs.forms.is_in_disabled_select.Goals as goal

pub returns-then-is_disabled_select : goal.returns-then-is_disabled_select
returns-then-is_disabled_select c =
    let rows = c.args.document.now.rows in
    sym (c.loop-i.invariant.same ∙ any_up (is_disabled_select rows) 200 c.loop-i._i rows.ups c.loop-i.at c.in-Some.up true (omega arith) c.in-Some.ensures.row (sym c.is_disabled_select.ensures ∙ c.if-is_disabled_select.true))

pub returns-in-None : goal.returns-in-None
returns-in-None c =
    let rows = c.args.document.now.rows in
    sym (c.loop-i.invariant.same ∙ ap (list_any (is_disabled_select rows)) (above_top 200 c.loop-i._i rows.ups c.loop-i.at (omega arith) c.in-None.ensures.row))

pub loop-i-preserved : goal.loop-i-preserved
loop-i-preserved c =
    let rows = c.args.document.now.rows in
    record {
      within = c.in-Some.ensures.within;
      same = c.loop-i.invariant.same ∙ any_up (is_disabled_select rows) 200 c.loop-i._i rows.ups c.loop-i.at c.in-Some.up false (omega arith) c.in-Some.ensures.row (sym c.is_disabled_select.ensures ∙ c.if-is_disabled_select.false);
    }

pub returns : goal.returns
returns c =
    let rows = c.args.document.now.rows in
    sym (c.loop-i.invariant.same ∙ ap (list_any (is_disabled_select rows)) (above_end 200 c.loop-i._i rows.ups c.loop-i.at (omega arith)))
