-- Each step of the code over an argument of nth-child, against the reading functions.
use Rattle.std.proofs.Common.{◌≡◌, ℕ, cond, List, ◌∷◌, Option, Some, None, length, sym, ap, refl, ◌∙◌}
use Rattle.std.specs.Prelude.{ℤ, pos, codes, MatchOption}
use Rattle.std.specs.Option.{option_map}
use Rattle.std.specs.Char.{is_ascii_digit}
use Rattle.std.proofs.lemmas.Bool.{eq-eqb, ne_eqb}
use Rattle.selectors.specs.Reading.{front, behind, after_white}
use Rattle.selectors.specs.declared.steps.Sign.{Sign}
use Rattle.selectors.specs.Steps.{signed, number}
use Rattle.selectors.specs.ReadingSteps.{word_at, ends_at, added_at, second_at, factor_of, behind_digits, unsigned_at, signed_at, or_odd, or_even, argument_at}

-- what was read of the digits at the front of a text
pub record DigitsRead (text : List ℕ) (value count : ℕ) (rest : List ℕ) : Type 0 where
  pub value_is : value ≡ number (front is_ascii_digit 9 text)
  pub count_is : count ≡ length (front is_ascii_digit 9 text)
  pub rest_is : rest ≡ behind is_ascii_digit 9 text

pub added_reads : (a : ℤ) (sign : Sign) (text : List ℕ) (value count : ℕ) (rest : List ℕ) → DigitsRead text value count rest → (count ≡ 0 → ⊥) → ends_at a (signed sign value) rest ≡ added_at a sign text
added_reads a sign text value count rest read some =
    ap (λ v. ends_at a (signed sign v) rest) read.value_is ∙ ap (ends_at a (signed sign (number (front is_ascii_digit 9 text)))) read.rest_is
    ∙ sym (ap (λ t. cond t None (ends_at a (signed sign (number (front is_ascii_digit 9 text))) (behind is_ascii_digit 9 text))) (ne_eqb (length (front is_ascii_digit 9 text)) 0 (λ h. some (read.count_is ∙ h))))

second_at_end : (a : ℤ) (c : ℕ) (after : List ℕ) → (c ≡ 43 → ⊥) → (c ≡ 45 → ⊥) → second_at a (c ∷ after) ≡ ends_at a (pos 0) (c ∷ after)
second_at_end a c after one other = rw (ne_eqb c 43 one, ne_eqb c 45 other) refl

pub second_reads : (a : ℤ) (text : List ℕ) (c : ℕ) (after : List ℕ) → text ≡ c ∷ after → (c ≡ 43 → ⊥) → (c ≡ 45 → ⊥) → ends_at a (pos 0) text ≡ second_at a text
second_reads a text c after whole one other = ap (ends_at a (pos 0)) whole ∙ sym (ap (second_at a) whole ∙ second_at_end a c after one other)

pub factor_none : (text : List ℕ) (value count : ℕ) (rest : List ℕ) → DigitsRead text value count rest → count ≡ 0 → 1 ≡ factor_of (front is_ascii_digit 9 text)
factor_none text value count rest read nothing = sym (ap (λ t. cond t 1 (number (front is_ascii_digit 9 text))) (eq-eqb _ _ (sym read.count_is ∙ nothing)))

pub factor_some : (text : List ℕ) (value count : ℕ) (rest : List ℕ) → DigitsRead text value count rest → (count ≡ 0 → ⊥) → value ≡ factor_of (front is_ascii_digit 9 text)
factor_some text value count rest read some = read.value_is ∙ sym (ap (λ t. cond t 1 (number (front is_ascii_digit 9 text))) (ne_eqb _ _ (λ h. some (read.count_is ∙ h))))

pub unsigned_n : (sign : Sign) (text : List ℕ) (value count factor : ℕ) (rest more : List ℕ) → DigitsRead text value count rest → factor ≡ factor_of (front is_ascii_digit 9 text) → Some more ≡ word_at (codes "n") rest
    → second_at (signed sign factor) (after_white more) ≡ unsigned_at sign text
unsigned_n sign text value count factor rest more read is word =
    ap (λ f. second_at (signed sign f) (after_white more)) is
    ∙ ap (behind_digits sign (front is_ascii_digit 9 text) (behind is_ascii_digit 9 text)) (word ∙ ap (word_at (codes "n")) read.rest_is)

pub unsigned_one : (sign : Sign) (text : List ℕ) (value count : ℕ) (rest : List ℕ) → DigitsRead text value count rest → (count ≡ 0 → ⊥) → ◌≡◌ {A = Option (List ℕ)} None (word_at (codes "n") rest)
    → ends_at (pos 0) (signed sign value) rest ≡ unsigned_at sign text
unsigned_one sign text value count rest read some word =
    added_reads (pos 0) sign text value count rest read some
    ∙ ap (behind_digits sign (front is_ascii_digit 9 text) (behind is_ascii_digit 9 text)) (word ∙ ap (word_at (codes "n")) read.rest_is)

pub even_reads : (text after rest : List ℕ) → after ≡ after_white text → Some rest ≡ word_at (codes "even") after → ends_at (pos 2) (pos 0) rest ≡ argument_at text
unfolding argument_at
even_reads text after rest is word = ap (or_even after) word ∙ ap (λ t. or_even t (word_at (codes "even") t)) is

pub odd_reads : (text after rest : List ℕ) → after ≡ after_white text → ◌≡◌ {A = Option (List ℕ)} None (word_at (codes "even") after) → Some rest ≡ word_at (codes "odd") after → ends_at (pos 2) (pos 1) rest ≡ argument_at text
unfolding argument_at
odd_reads text after rest is no_even word = ap (or_odd after) word ∙ ap (or_even after) no_even ∙ ap (λ t. or_even t (word_at (codes "even") t)) is

pub signed_reads : (text after : List ℕ) → after ≡ after_white text → ◌≡◌ {A = Option (List ℕ)} None (word_at (codes "even") after) → ◌≡◌ {A = Option (List ℕ)} None (word_at (codes "odd") after) → signed_at after ≡ argument_at text
unfolding argument_at
signed_reads text after is no_even no_odd = ap (or_odd after) no_odd ∙ ap (or_even after) no_even ∙ ap (λ t. or_even t (word_at (codes "even") t)) is

pub match_mapped : {T U : Type 0} (f : T → U) (found : Option T) (P : Type 0) (Q : U → Type 0) → MatchOption (option_map f found) P Q → MatchOption found P (λ x. Q (f x))
match_mapped f None P Q is = is
match_mapped f (Some x) P Q is = is
