use Rattle.std.proofs.Common.{◌≡◌, List, ℕ, ℤ, ◌∷◌, ◌∙◌, ◌++◌, ap, arith, codes, to_z, of_z, w64}
use Rattle.std.specs.Str.{chars}
use Rattle.std.specs.Fmt.{signed_decimal}
use Rattle.std.proofs.lemmas.Result.{IfOk-weaker}
use Rattle.std.proofs.lemmas.Int.{to_z-of_z}
use Rattle.std.proofs.lemmas.Fmt.{IsAscii-signed}
use Rattle.page_engine.specs.Lines.{head_of}
use Rattle.page_engine.proofs.LineTexts.{spaced_text, place_chars, named_head}
use Rattle.page_engine.proofs.lines.place_line.Goals as goal

both : (x y p q : ℤ) → x ≡ p → y ≡ q → signed_decimal x ++ 44 ∷ signed_decimal y ≡ signed_decimal p ++ 44 ∷ signed_decimal q
both x y p q e f = ap (λ (z : ℤ). signed_decimal z ++ 44 ∷ signed_decimal y) e ∙ ap (λ (z : ℤ). signed_decimal p ++ 44 ∷ signed_decimal z) f

pub returns : goal.returns
returns c =
    let x = to_z w64 (of_z w64 c.args.x) in
    let y = to_z w64 (of_z w64 c.args.y) in
    let same : signed_decimal x ++ 44 ∷ signed_decimal y ≡ signed_decimal c.args.x ++ 44 ∷ signed_decimal c.args.y =
    both x y c.args.x c.args.y (to_z-of_z w64 c.args.x c.ranges.x) (to_z-of_z w64 c.args.y c.ranges.y) in
    IfOk-weaker c.of.result _ _ (λ t e. e ∙ spaced_text c.args.kind c.args.target c.as_str.result.now (signed_decimal x ++ 44 ∷ signed_decimal y) (omega (arith, c.ranges.target.fits))
    (c.as_str.ensures.value ∙ c.in_ok-text.ensures.ok ∙ named_head c.args.kind c.name.result.now _ c.name.ensures)
    ∙ ap (λ (u : List ℕ). head_of c.args.kind c.args.target ++ codes " " ++ u) (ap chars same ∙ place_chars c.args.x c.args.y (IsAscii-signed c.args.x c.ranges.x.sfits) (IsAscii-signed c.args.y c.ranges.y.sfits))) c.of.ensures.characters
