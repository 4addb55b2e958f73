use Rattle.std.proofs.Common.{◌≡◌, ap, ◌∙◌, w64}
use Rattle.std.proofs.lemmas.Int.{to_z-of_z}
use Rattle.std.specs.Prelude.{pos}
use Rattle.std.specs.Char.{is_ascii_digit}
use Rattle.selectors.specs.Reading.{front}
use Rattle.selectors.specs.Steps.{signed}
use Rattle.selectors.specs.ReadingSteps.{ends_at, second_at, factor_of}
use Rattle.selectors.proofs.StepReads.{DigitsRead, factor_none, factor_some, unsigned_n, unsigned_one}
use Rattle.selectors.proofs.steps.unsigned.Goals as goal
use Rattle.selectors.proofs.steps.unsigned.Goals.{then-read-eq0, else-read-eq0}

pub returns-in-Some : goal.returns-in-Some
returns-in-Some c =
    let read : DigitsRead c.args.text.now c.digits-read.result.value c.digits-read.result.count c.digits-read.result.rest.now =
    record { value_is = c.digits-read.ensures.value; count_is = c.digits-read.ensures.count; rest_is = c.digits-read.ensures.rest } in
    let factor : c.if-read-eq0.factor ≡ factor_of (front is_ascii_digit 9 c.args.text.now) =
    elim c.if-read-eq0.branch [ then-read-eq0 w ↦ w.factor-is ∙ factor_none _ _ _ _ read w.if-read-eq0.true | else-read-eq0 w ↦ w.factor-is ∙ factor_some _ _ _ _ read w.if-read-eq0.false ] in
    c.second.ensures ∙ ap (λ a. second_at a c.without_white.result.now) (to_z-of_z w64 c.signed.result (record { sfits = c.signed.type_inv })) ∙ ap (λ a. second_at a c.without_white.result.now) c.signed.ensures ∙ ap (second_at (signed c.args.sign c.if-read-eq0.factor)) c.without_white.ensures
    ∙ unsigned_n c.args.sign c.args.text.now _ c.digits-read.result.count c.if-read-eq0.factor c.digits-read.result.rest.now c.in-Some.rest.now read factor c.in-Some.ensures

pub returns : goal.returns
returns c =
    let read : DigitsRead c.args.text.now c.digits-read.result.value c.digits-read.result.count c.digits-read.result.rest.now =
    record { value_is = c.digits-read.ensures.value; count_is = c.digits-read.ensures.count; rest_is = c.digits-read.ensures.rest } in
    c.ends.ensures ∙ ap (λ b. ends_at (pos 0) b c.digits-read.result.rest.now) (to_z-of_z w64 c.signed-2.result (record { sfits = c.signed-2.type_inv })) ∙ ap (λ b. ends_at (pos 0) b c.digits-read.result.rest.now) c.signed-2.ensures
    ∙ unsigned_one c.args.sign c.args.text.now _ c.digits-read.result.count c.digits-read.result.rest.now read c.if-read-eq0-2.false c.in_default.ensures
