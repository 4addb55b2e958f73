-- What stands in the brackets of nth-child, read from left to right.
use Rattle.std.specs.Prelude.{ℕ, ℤ, pos, cond, ◌==◌, Option, Some, None, List, [], ◌∷◌, length, codes}
use Rattle.std.specs.Option.{option_map}
use Rattle.std.specs.Char.{is_ascii_digit, eq_ignore_ascii_case}
use Rattle.selectors.specs.Reading.{front, behind, after_white}
use Rattle.selectors.specs.declared.steps.Sign.{Sign}
use Rattle.selectors.specs.declared.steps.Sign.TheVariants.{NoSign, Plus, Minus}
use Rattle.selectors.specs.Steps.{signed, number}

-- the text behind a word, ASCII case ignored
abbrev pub word_at : List ℕ → List ℕ → Option (List ℕ)
word_at [] text = Some text
word_at (w ∷ word) [] = None
word_at (w ∷ word) (c ∷ text) = cond (eq_ignore_ascii_case c w) (word_at word text) None

-- the text behind a closing bracket
abbrev pub closed_at : List ℕ → Option (List ℕ)
closed_at [] = None
closed_at (c ∷ text) = cond (c == 41) (Some text) None

-- a and b, where the argument is closed
abbrev pub ends_at : ℤ → ℤ → List ℕ → Option ((ℤ × ℤ) × List ℕ)
ends_at a b text = option_map (λ rest. ((a, b), rest)) (closed_at (after_white text))

-- the digits of b, behind its sign
abbrev pub added_at : ℤ → Sign → List ℕ → Option ((ℤ × ℤ) × List ℕ)
added_at a sign text = cond (length (front is_ascii_digit 9 text) == 0) None (ends_at a (signed sign (number (front is_ascii_digit 9 text))) (behind is_ascii_digit 9 text))

-- b with its sign, or no b, behind the n and white space
abbrev pub second_at : ℤ → List ℕ → Option ((ℤ × ℤ) × List ℕ)
second_at a [] = None
second_at a (c ∷ text) = cond (c == 43) (added_at a Plus (after_white text)) (cond (c == 45) (added_at a Minus (after_white text)) (ends_at a (pos 0) (c ∷ text)))

-- a number of digits, one where there are none
abbrev pub factor_of : List ℕ → ℕ
factor_of digits = cond (length digits == 0) 1 (number digits)

-- what stands behind the sign and the first digits
abbrev pub behind_digits : Sign → List ℕ → List ℕ → Option (List ℕ) → Option ((ℤ × ℤ) × List ℕ)
behind_digits sign digits text (Some rest) = second_at (signed sign (factor_of digits)) (after_white rest)
behind_digits sign digits text None = cond (length digits == 0) None (ends_at (pos 0) (signed sign (number digits)) text)

-- digits, and an n or none, behind the sign
abbrev pub unsigned_at : Sign → List ℕ → Option ((ℤ × ℤ) × List ℕ)
unsigned_at sign text = behind_digits sign (front is_ascii_digit 9 text) (behind is_ascii_digit 9 text) (word_at (codes "n") (behind is_ascii_digit 9 text))

abbrev pub signed_at : List ℕ → Option ((ℤ × ℤ) × List ℕ)
signed_at [] = None
signed_at (c ∷ text) = cond (c == 43) (unsigned_at Plus text) (cond (c == 45) (unsigned_at Minus text) (unsigned_at NoSign (c ∷ text)))

abbrev pub or_odd : List ℕ → Option (List ℕ) → Option ((ℤ × ℤ) × List ℕ)
or_odd text (Some rest) = ends_at (pos 2) (pos 1) rest
or_odd text None = signed_at text

abbrev pub or_even : List ℕ → Option (List ℕ) → Option ((ℤ × ℤ) × List ℕ)
or_even text (Some rest) = ends_at (pos 2) (pos 0) rest
or_even text None = or_odd text (word_at (codes "odd") text)

abbrev pub step_at : List ℕ → Option ((ℤ × ℤ) × List ℕ)
step_at text = or_even text (word_at (codes "even") text)

unfoldable pub argument_at : List ℕ → Option ((ℤ × ℤ) × List ℕ)
argument_at text = step_at (after_white text)
