use Rattle.remote_end.proofs.PlanThere.{plans_are_there}
use Rattle.remote_end.proofs.laws.plans_are_there.Goals as goal

pub returns : goal.returns
returns c = plans_are_there
