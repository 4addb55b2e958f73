-- The names of elements and of their attributes, as a file may spell them.
use Rattle.std.specs.Prelude.{ℕ, Bool, false, ◌&&◌, ◌||◌, ◌==◌, nat_le, List, [], ◌∷◌}
use Rattle.std.specs.List.{list_all}

-- a to z
abbrev pub is_lower : ℕ → Bool
is_lower c = nat_le 97 c && nat_le c 122

-- 0 to 9
abbrev pub is_digit : ℕ → Bool
is_digit c = nat_le 48 c && nat_le c 57

-- a lower-case letter, a digit or `-`
abbrev pub is_tag_character : ℕ → Bool
is_tag_character c = is_lower c || (is_digit c || c == 45)

-- such a character, `_` or `:`
abbrev pub is_name_character : ℕ → Bool
is_name_character c = is_tag_character c || (c == 95 || c == 58)

abbrev pub starts_lower : (ℕ → Bool) → List ℕ → Bool
starts_lower test [] = false
starts_lower test (c ∷ cs) = is_lower c && list_all test cs

-- the tag of an element
abbrev pub is_tag : List ℕ → Bool
is_tag text = starts_lower is_tag_character text

-- the name of an attribute
abbrev pub is_attribute_name : List ℕ → Bool
is_attribute_name text = starts_lower is_name_character text
