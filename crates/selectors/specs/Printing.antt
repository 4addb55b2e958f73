-- How names, strings and an+b are printed.
use Rattle.std.specs.Prelude.{ℕ, suc, ℤ, pos, negsuc, cond, ◌||◌, ◌==◌, List, [], ◌∷◌, ◌++◌, map}
use Rattle.std.specs.List.{flat_map}
use Rattle.std.specs.Char.{is_ascii_digit, digit_char}
use Rattle.std.specs.Int.Digits.{digits_of}
use Rattle.selectors.specs.Characters.{is_break, is_name_character}

-- a number in digits of a base, nothing for 0
abbrev pub digits_text : ℕ → ℕ → List ℕ
digits_text base n = map digit_char (digits_of base n)

-- a backslash, the lower-case hex of the character, and a space
abbrev pub escaped : ℕ → List ℕ
escaped c = 92 ∷ digits_text 16 c ++ 32 ∷ []

-- a character of a name
abbrev pub name_written : ℕ → List ℕ
name_written c = cond (is_name_character c) (c ∷ []) (escaped c)

-- one where no digit may stand
abbrev pub first_written : ℕ → List ℕ
first_written c = cond (is_ascii_digit c) (escaped c) (name_written c)

abbrev pub after_dash : List ℕ → List ℕ
after_dash [] = escaped 45
after_dash (c ∷ text) = 45 ∷ first_written c ++ flat_map name_written text

-- a '-' stands for itself, unless it is alone; the first character, and the one behind a '-' that is the first, is no digit
abbrev pub printed_identifier : List ℕ → List ℕ
printed_identifier [] = []
printed_identifier (c ∷ text) = cond (c == 45) (after_dash text) (first_written c ++ flat_map name_written text)

-- a character of a string
abbrev pub string_written : ℕ → List ℕ
string_written c = cond ((c == 34) || (c == 92) || is_break c) (escaped c) (c ∷ [])

abbrev pub printed_string : List ℕ → List ℕ
printed_string text = 34 ∷ flat_map string_written text ++ 34 ∷ []

-- a number in decimal
abbrev pub number_text : ℕ → List ℕ
number_text n = cond (n == 0) (48 ∷ []) (digits_text 10 n)

abbrev pub first_text : ℤ → List ℕ
first_text (pos n) = number_text n
first_text (negsuc n) = 45 ∷ number_text (suc n)

-- with its sign
abbrev pub second_text : ℤ → List ℕ
second_text (pos n) = 43 ∷ number_text n
second_text (negsuc n) = 45 ∷ number_text (suc n)

-- an+b with both numbers, and the sign of b
abbrev pub printed_step : ℤ → ℤ → List ℕ
printed_step a b = first_text a ++ 110 ∷ second_text b
