use Rattle.laws.proofs.LawfulLaw.{states_are_lawful}
use Rattle.laws.proofs.states_are_lawful.Goals as goal

pub returns : goal.returns
returns c = states_are_lawful
