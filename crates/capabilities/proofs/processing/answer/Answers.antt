use Rattle.std.proofs.Common.{sym, ap, ◌∙◌, Some, Ok}
use Rattle.std.specs.Option.{option_copied, option_map}
use Rattle.capabilities.specs.Choice.{merge}
use Rattle.capabilities.specs.Processed.{matched_of}
use Rattle.capabilities.proofs.Merges.{merged, chosen-first}
use Rattle.capabilities.proofs.ProcessedLemmas.{answer_of-wrong, answer_of-chosen}
use Rattle.capabilities.proofs.processing.answer.Goals as goal

pub returns-in-Some-clause-cause : goal.returns-in-Some-clause-cause
returns-in-Some-clause-cause c = answer_of-wrong _ _ _ _ (sym c.in-Some.ensures ∙ ap Some (sym c.in_ok-copy.ensures))

pub returns-in_ok-read-in-Some-choose-clause-ok : goal.returns-in_ok-read-in-Some-choose-clause-ok
returns-in_ok-read-in-Some-choose-clause-ok c =
    let always = c.args.always.now in
    let valid = sym c.first_wrong.ensures ∙ ap option_copied c.in_default.is in
    let found = chosen-first c.args.offer.now.name always c.args.firsts.now ∙ ap (option_map (merged always)) (sym c.in-Some-choose.ensures) in
    answer_of-chosen _ _ _ _ valid found ∙ ap Ok (sym (c.in_ok-read-in-Some-choose.ensures ∙ ap (λ f. matched_of (merge always f)) c.members.ensures))

pub returns-in-None-clause-cause : goal.returns-in-None-clause-cause
returns-in-None-clause-cause c =
    let always = c.args.always.now in
    let valid = sym c.first_wrong.ensures ∙ ap option_copied c.in_default.is in
    answer_of-chosen _ _ _ _ valid (chosen-first c.args.offer.now.name always c.args.firsts.now ∙ ap (option_map (merged always)) (sym c.in-None.ensures))
