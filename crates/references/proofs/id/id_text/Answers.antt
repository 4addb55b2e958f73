use Rattle.std.proofs.Common.{◌∙◌, subst, inl, refl, sym}
use Rattle.std.specs.Str.{IsAscii}
use Rattle.std.proofs.lemmas.Result.{IfOk-weaker}
use Rattle.uuid.specs.Text.{lower}
use Rattle.uuid.proofs.TextLemmas.{hyphenated_ascii}
use Rattle.references.specs.Identifier.{text_of, bytes_of}
use Rattle.references.proofs.id.id_text.Goals as goal

pub returns : goal.returns
unfolding text_of
returns c =
    let text = c.text_in.ensures in
    let ascii = subst IsAscii (sym text) (hyphenated_ascii lower (bytes_of c.args.id) (inl refl)) in
    IfOk-weaker c.of.result _ _ (λ t e. e ∙ text) (c.of.ensures.ascii ascii)
