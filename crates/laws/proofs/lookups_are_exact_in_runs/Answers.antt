use Rattle.laws.proofs.LookupLaw.{lookups_are_exact_in_runs}
use Rattle.laws.proofs.lookups_are_exact_in_runs.Goals as goal

pub returns : goal.returns
returns c = lookups_are_exact_in_runs
