use Rattle.laws.proofs.PipeLaw.{pipes_are_one}
use Rattle.laws.proofs.pipes_are_one.Goals as goal

pub returns : goal.returns
returns g c = pipes_are_one _ _ _ _ _
