use Rattle.std.proofs.Common.{◌∙◌, ap}
use Rattle.uuid.specs.Text.{hyphenated_text, lower}
use Rattle.references.specs.Identifier.{text_of}
use Rattle.references.proofs.id.Id.text_in.Goals as goal

pub returns : goal.returns
unfolding text_of
returns c = c.encode_lower.ensures.text ∙ ap (hyphenated_text lower) (c.hyphenated.ensures ∙ c.uuid.ensures)
