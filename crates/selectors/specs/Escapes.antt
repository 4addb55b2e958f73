-- The pieces of names and strings as they are written, and the characters that they mean (CSS Syntax, "escaping").
use Rattle.std.specs.Prelude.{ℕ, Bool, true, false, not, ◌&&◌, ◌||◌, ◌==◌, List, [], ◌∷◌, ◌++◌, length, nat_le, if◌then◌else◌}
use Rattle.std.specs.List.{list_all, flat_map}
use Rattle.std.specs.Char.{is_ascii_hexdigit}
use Rattle.std.specs.Str.Parse.{digits_value}
use Rattle.selectors.specs.Characters.{is_break, is_white, is_name_character, begins}

pub data Piece : Type 0 where
  -- a character that stands for itself
  plain : ℕ → Piece
  -- a backslash, hex digits and the white space behind them
  hex : List ℕ → List ℕ → Piece
  -- a backslash and a character that stands for itself
  quoted : ℕ → Piece
  -- a backslash and a line break, which are nothing
  broken : List ℕ → Piece

abbrev pub written : Piece → List ℕ
written (plain c) = c ∷ []
written (hex digits white) = 92 ∷ digits ++ white
written (quoted c) = 92 ∷ c ∷ []
written (broken end) = 92 ∷ end

-- zero, surrogates and values above 10FFFF are U+FFFD
abbrev pub scalar_of : ℕ → ℕ
scalar_of n = if (n == 0) || (nat_le 0xD800 n && nat_le n 0xDFFF) || nat_le 0x110000 n then 0xFFFD else n

abbrev pub meant : Piece → List ℕ
meant (plain c) = c ∷ []
meant (hex digits white) = scalar_of (digits_value 16 digits) ∷ []
meant (quoted c) = c ∷ []
meant (broken end) = []

-- one to six digits, and all there are up to six
abbrev pub takes_digits : List ℕ → List ℕ → Bool
takes_digits digits after = nat_le 1 (length digits) && nat_le (length digits) 6 && list_all is_ascii_hexdigit digits && ((length digits == 6) || not (begins is_ascii_hexdigit after))

-- one white space where one follows, CR LF as one
abbrev pub takes_white : List ℕ → List ℕ → Bool
takes_white [] after = not (begins is_white after)
takes_white (c ∷ []) after = is_white c && not ((c == 13) && begins (λ d. d == 10) after)
takes_white (c ∷ d ∷ []) after = (c == 13) && (d == 10)
takes_white (c ∷ d ∷ e ∷ more) after = false

abbrev pub is_hex : List ℕ → List ℕ → List ℕ → Bool
is_hex digits white after = takes_digits digits (white ++ after) && takes_white white after

-- neither a hex digit nor a line break
abbrev pub is_quoted : ℕ → Bool
is_quoted c = not (is_ascii_hexdigit c) && not (is_break c)

-- a line break that a backslash takes away: CR LF where LF follows CR
abbrev pub is_end : List ℕ → List ℕ → Bool
is_end [] after = false
is_end (c ∷ []) after = is_break c && not ((c == 13) && begins (λ d. d == 10) after)
is_end (c ∷ d ∷ []) after = (c == 13) && (d == 10)
is_end (c ∷ d ∷ e ∷ more) after = false

-- a piece of a name, before what follows it
abbrev pub is_of_name : Piece → List ℕ → Bool
is_of_name (plain c) after = is_name_character c
is_of_name (hex digits white) after = is_hex digits white after
is_of_name (quoted c) after = is_quoted c
is_of_name (broken end) after = false

-- a piece of a string in these quotes
abbrev pub is_of_string : ℕ → Piece → List ℕ → Bool
is_of_string quote (plain c) after = not (c == quote) && not (c == 92) && not (is_break c)
is_of_string quote (hex digits white) after = is_hex digits white after
is_of_string quote (quoted c) after = is_quoted c
is_of_string quote (broken end) after = is_end end after

abbrev pub all_written : List Piece → List ℕ
all_written pieces = flat_map written pieces

abbrev pub all_meant : List Piece → List ℕ
all_meant pieces = flat_map meant pieces

-- each is a piece of its kind before what follows it
abbrev pub all_are : (Piece → List ℕ → Bool) → List Piece → List ℕ → Bool
all_are is_piece [] after = true
all_are is_piece (piece ∷ pieces) after = is_piece piece (all_written pieces ++ after) && all_are is_piece pieces after
