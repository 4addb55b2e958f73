use Rattle.std.proofs.Common.{◌≡◌, ◌∙◌, ap, sym, Some, None, List, rules}
use Rattle.selectors.specs.ReadingSimples.{row_at, in_front}
use Rattle.selectors.specs.ReadingSelectors.{has_more, next_at}
use Rattle.selectors.specs.declared.selector.Complex.{Complex}
use Rattle.selectors.proofs.Alternatives.{next_shrinks}
use Rattle.selectors.proofs.Loops.{next_goes, next_fails, next_ends}
use Rattle.selectors.proofs.parsing.further.Goals as goal

pub row-preserved : goal.row-preserved
row-preserved c =
    let found : next_at c.row.rest.now ≡ Some (c.in-Some.complex, c.in-Some.after.now) = search rules in
    ap (λ (simples : List Complex). in_front simples (row_at has_more next_at c.in-Some.after.now)) c.in_ok-push.ensures.ok ∙ next_goes c.row.alternatives c.row.rest.now c.in-Some.complex c.in-Some.after.now (sym c.row-test.ensures) found ∙ c.row.invariant

pub row-smaller : goal.row-smaller
row-smaller c =
    let found : next_at c.row.rest.now ≡ Some (c.in-Some.complex, c.in-Some.after.now) = search rules in
    next_shrinks c.row.rest.now c.in-Some.complex c.in-Some.after.now found

pub returns : goal.returns
returns c = sym (next_ends c.row.alternatives c.row.rest.now (sym c.row-test.ensures)) ∙ c.row.invariant

pub returns-in_default : goal.returns-in_default
returns-in_default c =
    let missing : next_at c.row.rest.now ≡ None = search rules in
    sym (next_fails c.row.alternatives c.row.rest.now (sym c.row-test.ensures) missing) ∙ c.row.invariant
