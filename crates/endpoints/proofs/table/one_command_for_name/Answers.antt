use Rattle.endpoints.proofs.Names.{same_name}
use Rattle.endpoints.proofs.table.one_command_for_name.Goals as goal

pub returns : goal.returns
returns c = same_name
