use Rattle.std.proofs.Common.{◌≡◌, ℕ, List, [], ◌∷◌, length, not, refl, sym, ap, ◌∙◌, arith}
use Rattle.std.specs.Prelude.{◌==◌}
use Rattle.std.specs.Str.{chars, encode_utf8_all}
use Rattle.std.proofs.lemmas.Str.{encodes-chars, chars-nil}
use Rattle.selectors.proofs.texts.has_characters.Goals as goal

same : (bs cs : List ℕ) → chars bs ≡ cs → encode_utf8_all cs ≡ bs → (length bs == 0) ≡ (length cs == 0)
same [] [] to back = refl
same [] (c ∷ cs) to back = let e : [] ≡ c ∷ cs = sym chars-nil ∙ to in cc
same (b ∷ bs) [] to back = let e : [] ≡ b ∷ bs = back in cc
same (b ∷ bs) (c ∷ cs) to back = grind arith

pub returns : goal.returns
returns c =
    let text = c.args.text.now in
    ap not (c.is_empty.ensures ∙ same text (chars text) refl (encodes-chars text c.utf8.text))
