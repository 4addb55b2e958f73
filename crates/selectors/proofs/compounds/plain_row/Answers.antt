use Rattle.std.proofs.Common.{◌≡◌, ◌∙◌, ap, sym, Some, None, List, rules}
use Rattle.selectors.specs.ReadingSimples.{marks, row_at, plain_at, in_front}
use Rattle.selectors.specs.declared.selector.Simple.{Simple}
use Rattle.selectors.proofs.Loops.{plain_less, plain_goes, plain_fails, plain_ends}
use Rattle.selectors.proofs.compounds.plain_row.Goals as goal

pub row-preserved : goal.row-preserved
row-preserved c =
    let found : plain_at c.row.rest.now ≡ Some (c.in-Some.simple, c.in-Some.after.now) = search rules in
    ap (λ (simples : List Simple). in_front simples (row_at marks plain_at c.in-Some.after.now)) c.in_ok-push.ensures.ok ∙ plain_goes c.row.simples c.row.rest.now c.in-Some.simple c.in-Some.after.now (sym c.row-test.ensures) found ∙ c.row.invariant

pub row-smaller : goal.row-smaller
row-smaller c =
    let found : plain_at c.row.rest.now ≡ Some (c.in-Some.simple, c.in-Some.after.now) = search rules in
    plain_less c.row.rest.now c.in-Some.simple c.in-Some.after.now found

pub returns : goal.returns
returns c = sym (plain_ends c.row.simples c.row.rest.now (sym c.row-test.ensures)) ∙ c.row.invariant

pub returns-in_default : goal.returns-in_default
returns-in_default c =
    let missing : plain_at c.row.rest.now ≡ None = search rules in
    sym (plain_fails c.row.simples c.row.rest.now (sym c.row-test.ensures) missing) ∙ c.row.invariant
