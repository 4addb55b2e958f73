use Rattle.std.proofs.Common.{ap, ◌∙◌, w64}
use Rattle.std.specs.Prelude.{pos}
use Rattle.std.proofs.lemmas.Int.{to_z-of_z}
use Rattle.selectors.specs.ReadingSteps.{ends_at}
use Rattle.selectors.proofs.StepReads.{second_reads}
use Rattle.selectors.proofs.steps.second.Goals as goal

pub returns-else-first-eq45 : goal.returns-else-first-eq45
returns-else-first-eq45 c = c.ends.ensures ∙ ap (λ a. ends_at a (pos 0) c.args.text.now) (to_z-of_z w64 c.args.a c.ranges.a) ∙ second_reads c.args.a c.args.text.now _ _ c.in_ok-first.ensures.cases.0 c.if-first-eq43.false c.if-first-eq45.false
