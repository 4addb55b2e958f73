-- The texts, names and numbers that a selector may hold.
use Rattle.std.specs.Prelude.{ℕ, ℤ, pos, negsuc, Bool, not, ◌&&◌, ◌==◌, List, length, nat_le, nat_lt}
use Rattle.std.specs.List.{list_any}

-- U+0000 stands in no text
abbrev pub is_text : List ℕ → Bool
is_text text = not (list_any (λ c. c == 0) text)

abbrev pub is_name : List ℕ → Bool
is_name name = not (length name == 0) && is_text name

-- within plus or minus 999,999,999
abbrev pub is_small : ℤ → Bool
is_small (pos n) = nat_le n 999999999
is_small (negsuc n) = nat_lt n 999999999
