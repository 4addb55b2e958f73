use Rattle.std.proofs.Common.{ap, ◌∙◌, to_z, of_z, w64}
use Rattle.std.proofs.lemmas.Int.{to_z-of_z}
use Rattle.selectors.specs.ReadingSteps.{ends_at}
use Rattle.selectors.proofs.StepReads.{added_reads}
use Rattle.selectors.proofs.steps.added.Goals as goal

pub returns : goal.returns
returns c = c.ends.ensures ∙ ap (λ a. ends_at a (to_z w64 (of_z w64 c.signed.result)) c.digits-read.result.rest.now) (to_z-of_z w64 c.args.a c.ranges.a) ∙ ap (λ b. ends_at c.args.a b c.digits-read.result.rest.now) (to_z-of_z w64 c.signed.result (record { sfits = c.signed.type_inv }))
    ∙ ap (λ b. ends_at c.args.a b c.digits-read.result.rest.now) c.signed.ensures
    ∙ added_reads c.args.a c.args.sign c.args.text.now _ c.digits-read.result.count _ (record { value_is = c.digits-read.ensures.value; count_is = c.digits-read.ensures.count; rest_is = c.digits-read.ensures.rest }) c.if-read-eq0.false
