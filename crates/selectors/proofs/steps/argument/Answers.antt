use Rattle.std.proofs.Common.{◌∙◌}
use Rattle.selectors.proofs.Arguments.{argument_exact}
use Rattle.selectors.proofs.StepReads.{even_reads, odd_reads, signed_reads, match_mapped}
use Rattle.selectors.proofs.steps.argument.Goals as goal

pub returns-in-Some-clause-reads : goal.returns-in-Some-clause-reads
returns-in-Some-clause-reads c = c.ends.ensures ∙ even_reads c.args.text.now c.without_white-text.result.now c.in-Some.rest.now c.without_white-text.ensures c.in-Some.ensures

pub returns-in-Some-clause-exact : goal.returns-in-Some-clause-exact
returns-in-Some-clause-exact c = match_mapped (λ x. (x.0, x.1.now)) c.ends.result _ _ (argument_exact c.args.text.now _ (returns-in-Some-clause-reads c))

pub returns-in-Some-without_word-clause-reads : goal.returns-in-Some-without_word-clause-reads
returns-in-Some-without_word-clause-reads c = c.ends-in-Some-without_word.ensures ∙ odd_reads c.args.text.now c.without_white-text.result.now c.in-Some-without_word.rest.now c.without_white-text.ensures c.in_default.ensures c.in-Some-without_word.ensures

pub returns-in-Some-without_word-clause-exact : goal.returns-in-Some-without_word-clause-exact
returns-in-Some-without_word-clause-exact c = match_mapped (λ x. (x.0, x.1.now)) c.ends-in-Some-without_word.result _ _ (argument_exact c.args.text.now _ (returns-in-Some-without_word-clause-reads c))

pub returns-clause-reads : goal.returns-clause-reads
returns-clause-reads c = c.with_sign.ensures ∙ signed_reads c.args.text.now c.without_white-text.result.now c.without_white-text.ensures c.in_default.ensures c.in_default-without_word.ensures

pub returns-clause-exact : goal.returns-clause-exact
returns-clause-exact c = match_mapped (λ x. (x.0, x.1.now)) c.with_sign.result _ _ (argument_exact c.args.text.now _ (returns-clause-reads c))
