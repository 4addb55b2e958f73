use Rattle.selectors.proofs.OnOks.{on_ok_from}
use Rattle.selectors.proofs.PrintedNames.{identifier_reads}
use Rattle.selectors.proofs.printed_names.print_identifier.Goals as goal

pub returns-clause-reads : goal.returns-clause-reads
returns-clause-reads c = on_ok_from c.push_identifier.result _ (λ rest ends. identifier_reads c.args.name.now rest c.requires ends)
