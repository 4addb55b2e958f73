use Rattle.references.specs.Identifier.{bytes_of}
use Rattle.references.proofs.id.Id.uuid.Goals as goal

pub returns : goal.returns
unfolding bytes_of
returns c = rw (← c.self.view_is) (rw (c.number.ensures.number, c.from.ensures, c.from-2.ensures) at c.from_u64_pair.ensures)
