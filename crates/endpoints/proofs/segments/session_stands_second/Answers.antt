use Rattle.endpoints.proofs.Second.{second}
use Rattle.endpoints.proofs.segments.session_stands_second.Goals as goal

pub returns : goal.returns
returns c = second
