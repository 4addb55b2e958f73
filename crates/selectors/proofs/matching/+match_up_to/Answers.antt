use Rattle.std.proofs.Common.{◌≡◌, ◌-◌, true, false, take, reverse, sym, ap, ◌∙◌, arith}
use Rattle.std.specs.List.{list_any}
use Rattle.selectors.specs.Meets.{meets_all}
use Rattle.selectors.specs.Named.{matches_from, left_of}
use Rattle.selectors.proofs.Lists.{any_stop, any_end}
use Rattle.selectors.proofs.RightToLeft.{step}
use Rattle.selectors.proofs.matching.+match_up_to.Goals as goal

pub returns-then-not-branch : goal.returns-then-not-branch
returns-then-not-branch t c =
    let rows = c.args.document.now.rows in
    let joins = c.args.complex.now.rest in
    sym (step (meets_all rows c.args.complex.now.first) rows joins c.args.joins c.at-join.result.now c.args.node false (omega arith) c.at-join.ensures (sym c.if-not-branch.true ∙ c.in_ok-meets_all.ensures))

pub returns-then-branch : goal.returns-then-branch
returns-then-branch t c =
    let rows = c.args.document.now.rows in
    let joins = c.args.complex.now.rest in
    let test = matches_from (meets_all rows c.args.complex.now.first) rows (reverse (take (c.args.joins - 1) joins)) in
    let items = c.as_slice-at-items.result.now in
    let same : items ≡ left_of c.at-join.result.now.0 rows c.args.node = c.as_slice-at-items.ensures ∙ c.in_ok-left.ensures.list in
    sym (step (meets_all rows c.args.complex.now.first) rows joins c.args.joins c.at-join.result.now c.args.node true (omega arith) c.at-join.ensures (sym c.if-not-branch.false ∙ c.in_ok-meets_all.ensures)
    ∙ ap (list_any test) (sym same) ∙ c.loop-at.invariant ∙ any_stop test items c.loop-at.at-index c.at-item.result c.loop-at-test.true c.at-item.is (sym c.in_ok-match_up_to.ensures ∙ c.if-branch.true))

pub returns : goal.returns
returns t c =
    let rows = c.args.document.now.rows in
    let joins = c.args.complex.now.rest in
    let test = matches_from (meets_all rows c.args.complex.now.first) rows (reverse (take (c.args.joins - 1) joins)) in
    let items = c.as_slice-at-items.result.now in
    let same : items ≡ left_of c.at-join.result.now.0 rows c.args.node = c.as_slice-at-items.ensures ∙ c.in_ok-left.ensures.list in
    sym (step (meets_all rows c.args.complex.now.first) rows joins c.args.joins c.at-join.result.now c.args.node true (omega arith) c.at-join.ensures (sym c.if-not-branch.false ∙ c.in_ok-meets_all.ensures)
    ∙ ap (list_any test) (sym same) ∙ c.loop-at.invariant ∙ any_end test items c.loop-at.at-index (omega arith))
