use Rattle.remote_end.proofs.NamingLemmas.{named_as_route}
use Rattle.remote_end.proofs.naming.paths_name_sessions.Goals as goal

pub returns : goal.returns
returns c = named_as_route
