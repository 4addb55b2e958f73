use Rattle.std.proofs.Common.{rules, tests}
use Rattle.std.proofs.lemmas.Iterator.{YieldsList-from_slice}
use Rattle.std.proofs.lemmas.Iterator.Consumers.{YieldsList-from_copied}
use Rattle.std.proofs.lemmas.Iterator.Search.{find_from_yields_List}
use Rattle.wd_errors.proofs.Found.{all_codes, has_text, no_code}
use Rattle.wd_errors.proofs.table.code_of.Goals as goal

pub returns-clause-none : goal.returns-clause-none
returns-clause-none c =
    no_code c.args.text.now c.find.result
    (find_from_yields_List (has_text c.args.text.now) _ _ c.find.result c.find.ensures.ran (YieldsList-from_copied (YieldsList-from_slice all_codes cc)) (λ x b q h. search (rules, tests)))
