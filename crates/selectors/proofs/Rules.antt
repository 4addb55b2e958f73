-- What the grammar relates to a text keeps the rules of a selector.
use Rattle.std.proofs.Common.{◌≡◌, ◌∙◌, ℕ, zero, suc, ◌^◌, ◌<◌, ◌≤◌, Bool, true, false, not, cond, List, [], ◌∷◌, ◌++◌, length, refl, sym, ap, arith, lit≤, lit<}
use Rattle.std.specs.Prelude.{ℤ, ◌&&◌, ◌||◌, ◌==◌, nat_le}
use Rattle.std.specs.List.{list_all}
use Rattle.std.specs.Str.Parse.{digits_value, AllDigits}
use Rattle.std.specs.Char.{is_ascii_digit, digit_value}
use Rattle.std.proofs.Math.Nat.{pow-le-pow_right}
use Rattle.std.proofs.lemmas.Int.Digits.{digits_value-lt}
use Rattle.std.proofs.lemmas.Bool.{false≢true, and_parts, and_from, or_parts, or_from, ne_eqb, le-leb, lt-ltb}
use Rattle.std.proofs.lemmas.Bool.Decides.{nat_tests}
use Rattle.std.proofs.lemmas.List.Folds.{list_any-append}
use Rattle.selectors.specs.Escapes.{Piece, plain, hex, quoted, broken, written, meant, scalar_of, is_of_name, all_written, all_meant, all_are}
use Rattle.selectors.specs.Names.{IdentifierIs, StringIs}
use Rattle.selectors.specs.Steps.{signed, number, factor, IsNumber, IsFactor, StepIs, even, odd, one, alone, both, ArgumentIs}
use Rattle.selectors.specs.declared.steps.Sign.{Sign}
use Rattle.selectors.specs.declared.steps.Sign.TheVariants.{NoSign, Plus, Minus}
use Rattle.selectors.specs.Texted.{is_text, is_name, is_small}
use Rattle.selectors.proofs.PrintedZero.{zero_in}

-- ---- what is left of a text

parts_clean : (a b : List ℕ) → zero_in (a ++ b) ≡ false → (zero_in a ≡ false) × (zero_in b ≡ false)
parts_clean a b h = or_parts (zero_in a) (zero_in b) (sym (list_any-append (λ c. c == 0) a b) ∙ h)

pub rest_clean : (text front rest : List ℕ) → text ≡ front ++ rest → zero_in text ≡ false → zero_in rest ≡ false
rest_clean text front rest e h = (parts_clean front rest (ap zero_in (sym e) ∙ h)).1

pub clean_text : (text : List ℕ) → zero_in text ≡ false → is_text text ≡ true
clean_text text h = ap not h

-- ---- names and strings

scalar_clean : (n : ℕ) → (scalar_of n == 0) ≡ false
scalar_clean n = go ((n == 0) || (nat_le 0xD800 n && nat_le n 0xDFFF) || nat_le 0x110000 n) refl
  where
    go : (b : Bool) → ((n == 0) || (nat_le 0xD800 n && nat_le n 0xDFFF) || nat_le 0x110000 n) ≡ b → (cond b 0xFFFD n == 0) ≡ false
    go true e = refl
    go false e = (or_parts (n == 0) _ (or_parts _ (nat_le 0x110000 n) e).0).0

piece_clean : (piece : Piece) → zero_in (written piece) ≡ false → zero_in (meant piece) ≡ false
piece_clean (plain c) h = h
piece_clean (hex digits white) h = or_from _ _ (scalar_clean (digits_value 16 digits)) refl
piece_clean (quoted c) h = h
piece_clean (broken end) h = refl

pieces_clean : (pieces : List Piece) → zero_in (all_written pieces) ≡ false → zero_in (all_meant pieces) ≡ false
pieces_clean [] h = refl
pieces_clean (piece ∷ pieces) h =
    let p = parts_clean (written piece) (all_written pieces) h in
    list_any-append (λ c. c == 0) (meant piece) (all_meant pieces) ∙ or_from _ _ (piece_clean piece p.0) (pieces_clean pieces p.1)

some_meant : (pieces : List Piece) (rest : List ℕ) → 0 < length pieces → all_are is_of_name pieces rest ≡ true → (length (all_meant pieces) == 0) ≡ false
some_meant [] rest s h = absurd (omega arith)
some_meant (plain c ∷ pieces) rest s h = ne_eqb _ 0 (λ e. omega arith)
some_meant (hex digits white ∷ pieces) rest s h = ne_eqb _ 0 (λ e. omega arith)
some_meant (quoted c ∷ pieces) rest s h = ne_eqb _ 0 (λ e. omega arith)
some_meant (broken end ∷ pieces) rest s h = absurd (false≢true h)

pub identifier_rules : (text value rest : List ℕ) → IdentifierIs text value rest → zero_in text ≡ false → (is_name value ≡ true) × (zero_in rest ≡ false)
identifier_rules text value rest i h =
    let n = i.name in
    let p = parts_clean (all_written n.pieces) rest (ap zero_in (sym n.text_is) ∙ h) in
    (ap is_name n.value_is ∙ and_from _ _ (ap not (some_meant n.pieces rest n.some n.each)) (clean_text (all_meant n.pieces) (pieces_clean n.pieces p.0)), p.1)

pub string_rules : (text value rest : List ℕ) → StringIs text value rest → zero_in text ≡ false → (is_text value ≡ true) × (zero_in rest ≡ false)
string_rules text value rest s h =
    let p = parts_clean (s.quote ∷ all_written s.pieces) (s.quote ∷ rest) (ap zero_in (sym s.text_is) ∙ h) in
    let q = or_parts (s.quote == 0) (zero_in (all_written s.pieces)) p.0 in
    (ap is_text s.value_is ∙ clean_text (all_meant s.pieces) (pieces_clean s.pieces q.1), (or_parts (s.quote == 0) (zero_in rest) p.1).1)

-- ---- numbers

signed_small : (sign : Sign) (n : ℕ) → n ≤ 999999999 → is_small (signed sign n) ≡ true
signed_small NoSign n h = le-leb n 999999999 h
signed_small Plus n h = le-leb n 999999999 h
signed_small Minus zero h = refl
signed_small Minus (suc n) h = lt-ltb n 999999999 h

digit_small : (c : ℕ) → is_ascii_digit c ≡ true → digit_value c < 10
digit_small c h = grind (arith, nat_tests)

all_digits : (digits : List ℕ) → list_all is_ascii_digit digits ≡ true → AllDigits 10 digits
all_digits [] h = tt
all_digits (c ∷ digits) h = let p = and_parts (is_ascii_digit c) (list_all is_ascii_digit digits) h in (digit_small c p.0, all_digits digits p.1)

number_small : (digits : List ℕ) → IsNumber digits → number digits ≤ 999999999
number_small digits h =
    let below : number digits < 10 ^ length digits = digits_value-lt 10 digits (all_digits digits h.each) in
    let most : 10 ^ length digits ≤ 10 ^ 9 = pow-le-pow_right (lit< tt) h.few in
    let top : 10 ^ 9 ≤ 1000000000 = lit≤ tt in
    omega (arith, below, most, top)

factor_small : (digits : List ℕ) → IsFactor digits → factor digits ≤ 999999999
factor_small [] h = lit≤ tt
factor_small (d ∷ digits) h = number_small (d ∷ digits) h

step_small : (text : List ℕ) (a b : ℤ) → StepIs text a b → (is_small a ≡ true) × (is_small b ≡ true)
step_small _ _ _ (even text w) = (refl, refl)
step_small _ _ _ (odd text w) = (refl, refl)
step_small _ _ _ (one sign digits h) = (refl, signed_small sign (number digits) (number_small digits h))
step_small _ _ _ (alone sign digits n h w) = (signed_small sign (factor digits) (factor_small digits h), refl)
step_small _ _ _ (both sign digits n left other right more h w l s r k) = (signed_small sign (factor digits) (factor_small digits h), signed_small other (number more) (number_small more k))

pub argument_rules : (text : List ℕ) (a b : ℤ) (rest : List ℕ) → ArgumentIs text a b rest → zero_in text ≡ false → (is_small a ≡ true) × (is_small b ≡ true) × (zero_in rest ≡ false)
argument_rules text a b rest i h =
    let s = step_small i.step a b i.is in
    (s.0, s.1, (or_parts (41 == 0) (zero_in rest) (rest_clean text ((i.before ++ i.step) ++ i.after) (41 ∷ rest) i.text_is h)).1)
