-- Names, identifiers and strings: a text that begins with one, the characters that it means, and what is left of the text.
use Rattle.std.specs.Prelude.{◌≡◌, ◌≢◌, ℕ, ◌<◌, Bool, true, false, not, ◌&&◌, ◌||◌, ◌==◌, List, [], ◌∷◌, ◌++◌, length}
use Rattle.std.specs.Char.{is_ascii_digit}
use Rattle.selectors.specs.Characters.{is_name_character, is_break, begins}
use Rattle.selectors.specs.Escapes.{Piece, is_of_name, is_of_string, all_written, all_meant, all_are}

-- one more piece of a name stands there: a name character, or a backslash before anything but a line break
abbrev pub begins_name : List ℕ → Bool
begins_name [] = false
begins_name (c ∷ text) = is_name_character c || ((c == 92) && begins (λ d. not (is_break d)) text)

-- one or more pieces, behind which no further piece of a name stands
pub record NameIs (text value rest : List ℕ) : Type 0 where
  pub pieces : List Piece
  pub some : 0 < length pieces
  pub each : all_are is_of_name pieces rest ≡ true
  pub whole : begins_name rest ≡ false
  pub text_is : text ≡ all_written pieces ++ rest
  pub value_is : value ≡ all_meant pieces

-- a digit, or '-' and a digit
abbrev pub begins_number : List ℕ → Bool
begins_number [] = false
begins_number (c ∷ text) = is_ascii_digit c || ((c == 45) && begins is_ascii_digit text)

-- a name that, as it is written, begins neither with a digit nor with '-' and a digit, and isn't '-' alone
pub record IdentifierIs (text value rest : List ℕ) : Type 0 where
  pub name : NameIs text value rest
  pub no_number : begins_number text ≡ false
  pub no_dash : text ≢ 45 ∷ rest

pub record StringIs (text value rest : List ℕ) : Type 0 where
  pub quote : ℕ
  pub is_quote : ((quote == 34) || (quote == 39)) ≡ true
  pub pieces : List Piece
  pub each : all_are (is_of_string quote) pieces (quote ∷ rest) ≡ true
  pub text_is : text ≡ quote ∷ all_written pieces ++ quote ∷ rest
  pub value_is : value ≡ all_meant pieces
