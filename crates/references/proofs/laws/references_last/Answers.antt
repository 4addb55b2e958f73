use Rattle.references.proofs.References.{handed_out_is_found, handed_out_again, found_stays_found}
use Rattle.references.proofs.laws.references_last.Goals as goal

pub returns-clause-found : goal.returns-clause-found
returns-clause-found c = handed_out_is_found

pub returns-clause-again : goal.returns-clause-again
returns-clause-again c = handed_out_again

pub returns-clause-kept : goal.returns-clause-kept
returns-clause-kept c = found_stays_found
