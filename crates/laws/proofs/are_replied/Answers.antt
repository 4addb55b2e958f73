use Rattle.laws.proofs.RepliedLaw.{are_replied}
use Rattle.laws.proofs.are_replied.Goals as goal

pub returns : goal.returns
returns c = are_replied
