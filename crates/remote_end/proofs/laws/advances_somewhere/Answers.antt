use Rattle.remote_end.proofs.AdvanceMoreLemmas.{advances_somewhere}
use Rattle.remote_end.proofs.laws.advances_somewhere.Goals as goal

pub returns : goal.returns
returns c = advances_somewhere
