use Rattle.std.proofs.Common.{◌≡◌, ◌∙◌, ap, sym, Some, None, List, rules}
use Rattle.selectors.specs.ReadingSimples.{marks, row_at, simple_at, in_front}
use Rattle.selectors.specs.declared.selector.Simple.{Simple}
use Rattle.selectors.proofs.Loops.{simple_less, simple_goes, simple_fails, simple_ends}
use Rattle.selectors.proofs.compounds.row.Goals as goal

pub row-preserved : goal.row-preserved
row-preserved c =
    let found : simple_at c.row.rest.now ≡ Some (c.in-Some.simple, c.in-Some.after.now) = search rules in
    ap (λ (simples : List Simple). in_front simples (row_at marks simple_at c.in-Some.after.now)) c.in_ok-push.ensures.ok ∙ simple_goes c.row.simples c.row.rest.now c.in-Some.simple c.in-Some.after.now (sym c.row-test.ensures) found ∙ c.row.invariant

pub row-smaller : goal.row-smaller
row-smaller c =
    let found : simple_at c.row.rest.now ≡ Some (c.in-Some.simple, c.in-Some.after.now) = search rules in
    simple_less c.row.rest.now c.in-Some.simple c.in-Some.after.now found

pub returns : goal.returns
returns c = sym (simple_ends c.row.simples c.row.rest.now (sym c.row-test.ensures)) ∙ c.row.invariant

pub returns-in_default : goal.returns-in_default
returns-in_default c =
    let missing : simple_at c.row.rest.now ≡ None = search rules in
    sym (simple_fails c.row.simples c.row.rest.now (sym c.row-test.ensures) missing) ∙ c.row.invariant
