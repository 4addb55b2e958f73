use Rattle.std.proofs.Common.{arith}
use Rattle.std.proofs.lemmas.List.{get_or_default}
use Rattle.endpoints.proofs.path.of_bytes.Goals as goal

pub returns-clause-bytes : goal.returns-clause-bytes
returns-clause-bytes c = λ k d l. rw (get_or_default c.args.text.now k d 0 l) (omega (arith, c.type_inv.text k))
