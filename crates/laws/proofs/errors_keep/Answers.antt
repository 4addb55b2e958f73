use Rattle.laws.proofs.ErrorLaw.{errors_keep}
use Rattle.laws.proofs.errors_keep.Goals as goal

pub returns : goal.returns
returns c = errors_keep
