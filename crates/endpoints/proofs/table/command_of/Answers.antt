use Rattle.std.proofs.Common.{rules, tests}
use Rattle.std.proofs.lemmas.Iterator.{YieldsList-from_slice}
use Rattle.std.proofs.lemmas.Iterator.Consumers.{YieldsList-from_copied}
use Rattle.std.proofs.lemmas.Iterator.Search.{find_from_yields_List}
use Rattle.endpoints.specs.declared.table.TheConstants.{COMMANDS}
use Rattle.endpoints.proofs.Names.{has_name, no_command}
use Rattle.endpoints.proofs.table.command_of.Goals as goal

pub returns-clause-none : goal.returns-clause-none
returns-clause-none c =
    no_command c.args.name.now c.find.result
    (find_from_yields_List (has_name c.args.name.now) _ _ c.find.result c.find.ensures.ran (YieldsList-from_copied (YieldsList-from_slice COMMANDS cc)) (λ x b q h. search (rules, tests)))
