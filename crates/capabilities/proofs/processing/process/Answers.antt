use Rattle.std.proofs.Common.{◌≡◌, sym, ap, ◌∙◌, None, map, refl}
use Rattle.std.specs.Option.{option_map}
use Rattle.capabilities.specs.Values.{members_of}
use Rattle.capabilities.specs.Form.{capabilities_in, always_in, firsts_in}
use Rattle.capabilities.proofs.ProcessedLemmas.{processed-no_capabilities, processed-forms, cause_of, ok-same, cause-same, ok-holds, processed-range, processed-whole}
use Rattle.capabilities.proofs.processing.process.Goals as goal

pub returns-in_default-clause-cause : goal.returns-in_default-clause-cause
returns-in_default-clause-cause c =
    let none : capabilities_in c.args.parameters.now ≡ None = sym c.capabilities_of.ensures ∙ ap (option_map (λ t. t.now)) c.in_default.is in
    cause_of _ _ _ (processed-no_capabilities _ _ none) c.invalid.ensures

pub returns-in_default-always_of-clause-cause : goal.returns-in_default-always_of-clause-cause
returns-in_default-always_of-clause-cause c =
    let none : always_in c.in-Some.capabilities.now ≡ None = sym c.always_of.ensures ∙ ap (option_map (λ t. t.now)) c.in_default-always_of.is in
    cause_of _ _ _ (processed-forms _ _ _ _ _ (sym c.in-Some.ensures) none refl) c.invalid-in_default-always_of.ensures

pub returns-in_default-firsts_of-clause-cause : goal.returns-in_default-firsts_of-clause-cause
returns-in_default-firsts_of-clause-cause c =
    let none : firsts_in c.in-Some.capabilities.now ≡ None = sym c.firsts_of.ensures ∙ ap (option_map (λ t. map members_of t.now)) c.in_default-firsts_of.is in
    cause_of _ _ _ (processed-forms _ _ _ _ _ (sym c.in-Some.ensures) (sym c.in-Some-always_of.ensures) none) c.invalid-in_default-firsts_of.ensures

pub returns-clause-ok : goal.returns-clause-ok
returns-clause-ok c = ok-same _ _ _ (processed-forms _ _ _ _ _ (sym c.in-Some.ensures) (sym c.in-Some-always_of.ensures) (sym c.in-Some-firsts_of.ensures)) c.answer.ensures.ok

pub returns-clause-cause : goal.returns-clause-cause
returns-clause-cause c = cause-same _ _ _ (processed-forms _ _ _ _ _ (sym c.in-Some.ensures) (sym c.in-Some-always_of.ensures) (sym c.in-Some-firsts_of.ensures)) c.answer.ensures.cause

pub returns-clause-range : goal.returns-clause-range
returns-clause-range c = ok-holds _ _ _ (returns-clause-ok c) (processed-range c.args.offer.now.name c.args.parameters.now)

pub returns-clause-whole : goal.returns-clause-whole
returns-clause-whole c = λ h. ok-holds _ _ _ (returns-clause-ok c) (processed-whole c.args.offer.now.name c.args.parameters.now h)
