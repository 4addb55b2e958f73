use Rattle.laws.proofs.StepLaw.{steps_to_one}
use Rattle.laws.proofs.steps_to_one.Goals as goal

pub returns : goal.returns
returns c = steps_to_one
