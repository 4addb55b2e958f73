use Rattle.std.proofs.Common.{rules, arith}
use Rattle.std.proofs.lemmas.Map.Text.{text_keys}
use Rattle.page_file.proofs.places.add.Goals as goal

pub returns-clause-new : goal.returns-clause-new
returns-clause-new c = λ new. (search rules, λ q. grind (arith, text_keys))
