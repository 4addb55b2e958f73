-- What is printed of an+b reads as it.
use Rattle.std.proofs.Common.{◌≡◌, ℕ, suc, ◌<◌, ◌≤◌, ◌^◌, true, false, cond, List, [], ◌∷◌, ◌++◌, length, sym, subst, refl, ◌∙◌, arith, lit<, lit≤, append_assoc, append-nil}
use Rattle.std.specs.Prelude.{◌==◌, ℤ, pos, negsuc}
use Rattle.std.specs.Char.{is_ascii_digit, digit_char}
use Rattle.std.proofs.lemmas.Bool.{eqb-true, eqb-false, ltb-true, leb-true, agree_below_at}
use Rattle.selectors.specs.declared.steps.Sign.{Sign}
use Rattle.selectors.specs.declared.steps.Sign.TheVariants.{NoSign, Plus, Minus}
use Rattle.selectors.specs.Steps.{sign_text, signed, IsNumber, number, factor, IsFactor, StepIs, both}
use Rattle.selectors.specs.Texted.{is_small}
use Rattle.selectors.specs.Printing.{digits_text, number_text, printed_step}
use Rattle.selectors.proofs.Fronts.{split}
use Rattle.selectors.proofs.PrintedPieces.{digits_text_some, digits_text_few, digits_text_each, digits_text_value}

decimal : (d : ℕ) → d < 10 → is_ascii_digit (digit_char d) ≡ true
decimal d small = agree_below_at (λ x. is_ascii_digit (digit_char x)) (λ _. true) 10 d refl small

positive : (n : ℕ) → (n == 0) ≡ false → 0 < n
positive n some = let h : n ≡ 0 → ⊥ = eqb-false n 0 some in omega arith

number_is : (n : ℕ) → n ≤ 999999999 → IsNumber (number_text n)
number_is n small = split (n == 0) (λ b. (n == 0) ≡ b → IsNumber (cond b (48 ∷ []) (digits_text 10 n))) (λ _ _. record { some = omega arith; few = omega arith; each = refl })
    (λ _ e. let h : 999999999 < 10 ^ 9 = lit< tt in record { some = digits_text_some 10 n (lit≤ tt) (positive n e); few = digits_text_few 10 9 n (lit≤ tt) (omega (arith, h)); each = digits_text_each 10 n is_ascii_digit (lit≤ tt) decimal }) refl

number_value : (n : ℕ) → number (number_text n) ≡ n
number_value n = split (n == 0) (λ b. (n == 0) ≡ b → number (cond b (48 ∷ []) (digits_text 10 n)) ≡ n) (λ _ e. sym (eqb-true n 0 e)) (λ _ _. digits_text_value 10 n (lit≤ tt) (lit≤ tt)) refl

factor_number : (digits : List ℕ) → IsNumber digits → (factor digits ≡ number digits) × IsFactor digits
factor_number [] is = let h : 1 ≤ 0 = is.some in absurd (omega arith)
factor_number (d ∷ digits) is = (refl, is)

both_is : (sign other : Sign) (m n : ℕ) → m ≤ 999999999 → n ≤ 999999999 → 1 ≤ length (sign_text other) → StepIs ((sign_text sign ++ number_text m) ++ 110 ∷ (sign_text other ++ number_text n)) (signed sign m) (signed other n)
both_is sign other m n small_m small_n some =
    let f : (factor (number_text m) ≡ number (number_text m)) × IsFactor (number_text m) = factor_number (number_text m) (number_is m small_m) in
    subst (λ t. StepIs t (signed sign m) (signed other n)) (grouped (sign_text sign ++ number_text m) (sign_text other) (number_text n))
    (subst (λ x. StepIs (sign_text sign ++ number_text m ++ 110 ∷ [] ++ [] ++ sign_text other ++ [] ++ number_text n) (signed sign x) (signed other n)) (f.0 ∙ number_value m)
    (subst (λ y. StepIs (sign_text sign ++ number_text m ++ 110 ∷ [] ++ [] ++ sign_text other ++ [] ++ number_text n) (signed sign (factor (number_text m))) (signed other y)) (number_value n)
    (both sign (number_text m) (110 ∷ []) [] other [] (number_text n) f.1 refl refl some refl (number_is n small_n))))
  where
    grouped : (a b c : List ℕ) → a ++ 110 ∷ [] ++ [] ++ b ++ [] ++ c ≡ a ++ 110 ∷ (b ++ c)
    grouped a b c = simp (append_assoc, append-nil) refl

pub step_reads : (a b : ℤ) → is_small a ≡ true → is_small b ≡ true → StepIs (printed_step a b) a b
step_reads (pos m) (pos n) sa sb = both_is NoSign Plus m n (leb-true _ _ sa) (leb-true _ _ sb) (omega arith)
step_reads (pos m) (negsuc n) sa sb = let h : n < 999999999 = ltb-true _ _ sb in both_is NoSign Minus m (suc n) (leb-true _ _ sa) (omega arith) (omega arith)
step_reads (negsuc m) (pos n) sa sb = let h : m < 999999999 = ltb-true _ _ sa in both_is Minus Plus (suc m) n (omega arith) (leb-true _ _ sb) (omega arith)
step_reads (negsuc m) (negsuc n) sa sb = let g : m < 999999999 = ltb-true _ _ sa in let h : n < 999999999 = ltb-true _ _ sb in both_is Minus Minus (suc m) (suc n) (omega arith) (omega arith) (omega arith)
