-- The characters of the grammar: white space, line breaks and name characters; and what a text begins with.
use Rattle.std.specs.Prelude.{ℕ, Bool, false, ◌||◌, ◌==◌, List, [], ◌∷◌, nat_le}
use Rattle.std.specs.Char.{is_ascii_alphanumeric}

-- LF, FF, CR
abbrev pub is_break : ℕ → Bool
is_break c = (c == 10) || (c == 12) || (c == 13)

-- space, tab, LF, FF, CR
abbrev pub is_white : ℕ → Bool
is_white c = (c == 32) || (c == 9) || is_break c

-- a letter, a digit, '_', '-', or a character from U+0080 on
abbrev pub is_name_character : ℕ → Bool
is_name_character c = is_ascii_alphanumeric c || (c == 95) || (c == 45) || nat_le 128 c

abbrev pub begins : (ℕ → Bool) → List ℕ → Bool
begins test [] = false
begins test (c ∷ text) = test c
