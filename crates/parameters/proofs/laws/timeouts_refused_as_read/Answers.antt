use Rattle.parameters.proofs.Lengths.{as_read}
use Rattle.parameters.proofs.laws.timeouts_refused_as_read.Goals as goal

pub returns : goal.returns
returns c = as_read
