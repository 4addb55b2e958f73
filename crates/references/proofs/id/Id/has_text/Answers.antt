use Rattle.references.proofs.id.Id.has_text.Goals as goal

pub returns : goal.returns
returns c = rw (c.text_in.ensures) at c.eq.ensures
