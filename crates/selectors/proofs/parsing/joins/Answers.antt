use Rattle.std.proofs.Common.{◌≡◌, ◌∙◌, ap, sym, Some, None, List, rules}
use Rattle.selectors.specs.ReadingSimples.{row_at, in_front}
use Rattle.selectors.specs.ReadingSelectors.{goes_on, join_at}
use Rattle.selectors.specs.declared.selector.Combinator.{Combinator}
use Rattle.selectors.specs.declared.selector.Simple.{Simple}
use Rattle.selectors.proofs.Alternatives.{joins_shrink}
use Rattle.selectors.proofs.Loops.{join_goes, join_fails, join_ends}
use Rattle.selectors.proofs.Rowed.{front_none}
use Rattle.selectors.proofs.parsing.joins.Goals as goal

pub row-preserved : goal.row-preserved
row-preserved c =
    let found : join_at c.row.rest.now ≡ Some (c.in-Some.next, c.in-Some.after.now) = search rules in
    ap (λ (simples : List (Combinator × List Simple)). in_front simples (row_at goes_on join_at c.in-Some.after.now)) c.in_ok-push.ensures.ok ∙ join_goes c.row.joins c.row.rest.now c.in-Some.next c.in-Some.after.now (sym c.row-test.ensures) found ∙ c.row.invariant

pub row-smaller : goal.row-smaller
row-smaller c =
    let found : join_at c.row.rest.now ≡ Some (c.in-Some.next, c.in-Some.after.now) = search rules in
    joins_shrink c.row.rest.now c.in-Some.next c.in-Some.after.now found

pub returns : goal.returns
returns c = sym (join_ends c.row.joins c.row.rest.now (sym c.row-test.ensures)) ∙ c.row.invariant ∙ front_none _

pub returns-in_default : goal.returns-in_default
returns-in_default c =
    let missing : join_at c.row.rest.now ≡ None = search rules in
    sym (join_fails c.row.joins c.row.rest.now (sym c.row-test.ensures) missing) ∙ c.row.invariant ∙ front_none _
