use Rattle.selectors.proofs.OnOks.{on_ok_from}
use Rattle.selectors.proofs.PrintedNames.{string_reads}
use Rattle.selectors.proofs.printed_names.print_string.Goals as goal

pub returns-clause-reads : goal.returns-clause-reads
returns-clause-reads c = on_ok_from c.push-2.result _ (λ rest. string_reads c.args.text.now rest c.requires)
