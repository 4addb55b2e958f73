use Rattle.references.proofs.References.{one_entry_for_text, one_entry_for_name, entries_are_found}
use Rattle.references.proofs.laws.entries_differ.Goals as goal

pub returns-clause-text : goal.returns-clause-text
returns-clause-text c = one_entry_for_text

pub returns-clause-name : goal.returns-clause-name
returns-clause-name c = one_entry_for_name

pub returns-clause-found : goal.returns-clause-found
returns-clause-found c = entries_are_found
