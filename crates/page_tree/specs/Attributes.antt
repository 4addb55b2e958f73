-- The attributes of an element: names and values as characters, in the order in which they were first set.
use Rattle.std.specs.Prelude.{ℕ, Bool, List, [], ◌∷◌, Option, Some, None, not, filter, if◌then◌else◌}
use Rattle.std.specs.List.{IsDistinct}
use Rattle.std.specs.Str.{bytes_eq}
use Rattle.std.specs.Map.{keys_of, lookup}

abbrev pub Attributes : Type 0
Attributes = List (List ℕ × List ℕ)

abbrev pub has_name : List ℕ → List ℕ × List ℕ → Bool
has_name name attribute = bytes_eq attribute.0 name

-- no two attributes have one name
abbrev pub DifferInName : Attributes → Type 0
DifferInName attributes = IsDistinct bytes_eq (keys_of attributes)

-- the value of the attribute with that name, if there is one
abbrev pub value_of : List ℕ → Attributes → Option (List ℕ)
value_of name attributes = lookup (λ other. bytes_eq other name) attributes

-- the attribute with that name gets the value where it stands, or comes last where there was none
abbrev pub with_value : List ℕ → List ℕ → Attributes → Attributes
with_value name value [] = (name, value) ∷ []
with_value name value (attribute ∷ rest) = if has_name name attribute then (attribute.0, value) ∷ rest else attribute ∷ with_value name value rest

abbrev pub without_name : List ℕ → Attributes → Attributes
without_name name attributes = filter (λ attribute. not (has_name name attribute)) attributes

-- the attribute set, or taken away where there is no value
abbrev pub changed_to : List ℕ → Option (List ℕ) → Attributes → Attributes
changed_to name None attributes = without_name name attributes
changed_to name (Some value) attributes = with_value name value attributes
