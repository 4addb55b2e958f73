use Rattle.references.proofs.IdentifierText.{same_id}
use Rattle.references.proofs.id.one_id_for_text.Goals as goal

pub returns : goal.returns
returns c = same_id
