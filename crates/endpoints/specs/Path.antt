-- What a target asks for: its path, in segments, and which patterns the path fits.
use Rattle.std.specs.Prelude.{◌==◌, ℕ, List, [], ◌∷◌, Bool, true, false, ◌&&◌, Option, nat_eq, slice_get}
use Rattle.std.specs.List.{slice_split, before_first, position}
use Rattle.std.specs.Option.{option_map, option_and_then}
use Rattle.std.specs.Cmp.Lexicographic.{pointwise}
use Rattle.percent_encoding.specs.Percent.{percent_decode}

-- the target up to its first `?`
abbrev pub path_in : List ℕ → List ℕ
path_in target = before_first (λ b. b == 63) target

-- what the slashes part, with an empty segment before a first slash
abbrev pub segments : List ℕ → List (List ℕ)
segments path = slice_split (λ b. b == 47) path

abbrev pub same_text : List ℕ → List ℕ → Bool
same_text a b = pointwise nat_eq a b

-- a segment of a pattern that begins with a brace
abbrev pub is_variable : List ℕ → Bool
is_variable [] = false
is_variable (b ∷ text) = b == 123

abbrev pub is_some_text : List ℕ → Bool
is_some_text [] = false
is_some_text (b ∷ text) = true

-- a literal segment is the same, and a variable has some text
abbrev pub fits_segment : Bool → List ℕ → List ℕ → Bool
fits_segment true part segment = is_some_text segment
fits_segment false part segment = same_text part segment

-- as many segments, and each fits
abbrev pub fits : List (List ℕ) → List (List ℕ) → Bool
fits [] [] = true
fits [] (s ∷ ss) = false
fits (p ∷ ps) [] = false
fits (p ∷ ps) (s ∷ ss) = fits_segment (is_variable p) p s && fits ps ss

-- what a variable of the pattern stands for: the bytes of its segment, percent-decoded
abbrev pub value_of : List ℕ → List (List ℕ) → List (List ℕ) → Option (List ℕ)
value_of variable parts path =
    option_map percent_decode (option_and_then (λ i. slice_get path i) (position (λ p. same_text p variable) parts))
