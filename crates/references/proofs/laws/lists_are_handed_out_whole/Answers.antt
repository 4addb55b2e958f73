use Rattle.references.proofs.AllHanded.{all_or_nothing, all_is_found, all_keeps_found}
use Rattle.references.proofs.laws.lists_are_handed_out_whole.Goals as goal

pub returns-clause-nothing : goal.returns-clause-nothing
returns-clause-nothing c = all_or_nothing

pub returns-clause-kept : goal.returns-clause-kept
returns-clause-kept c = all_keeps_found

pub returns-clause-found : goal.returns-clause-found
returns-clause-found c = all_is_found
