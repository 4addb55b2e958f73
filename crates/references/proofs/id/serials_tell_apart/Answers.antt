use Rattle.std.proofs.Common.{ap}
use Rattle.references.specs.Identifier.{Identifier}
use Rattle.references.proofs.IdentifierText.{same_id}
use Rattle.references.proofs.id.serials_tell_apart.Goals as goal

pub returns : goal.returns
returns c = λ a b in_a in_b differ same. differ (ap (λ (id : Identifier). id.serial) (same_id a b in_a in_b same))
