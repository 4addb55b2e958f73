use Rattle.laws.proofs.RunLaw.{runs_are_one}
use Rattle.laws.proofs.runs_are_one.Goals as goal

pub returns : goal.returns
returns g c = runs_are_one _
