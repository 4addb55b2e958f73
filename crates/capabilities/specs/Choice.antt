-- Which name is wrong, which merges there are, and which of them is chosen, on whole lists of members.
use Rattle.std.specs.Prelude.{map, ℕ, List, [], ◌∷◌, ◌++◌, Bool, not, Option, Some, None}
use Rattle.std.specs.List.{find, list_all, list_any, filter}
use Rattle.std.specs.Option.{option_map}
use Rattle.std.specs.Str.{encode_utf8_all}
use Rattle.capabilities.specs.Values.{Members, is_null, same_text}
use Rattle.capabilities.specs.Table.{is_valid, is_match}

-- the members that are given: null drops one
abbrev pub given : Members → Members
given ms = filter (λ m. not (is_null m.1)) ms

-- the first answer of a list
abbrev pub or_else : {A : Type 0} → Option A → Option A → Option A
or_else (Some a) o = Some a
or_else None o = o

abbrev pub first_of : {X : Type 0} → (X → Option (List ℕ)) → List X → Option (List ℕ)
first_of f [] = None
first_of f (x ∷ xs) = or_else (f x) (first_of f xs)

-- the first name of an object with a value that isn't valid
abbrev pub wrong_in : Members → Option (List ℕ)
wrong_in ms = option_map (λ m. m.0) (find (λ m. not (is_valid m)) (given ms))

abbrev pub has_name : List ℕ → Members → Bool
has_name name ms = list_any (λ m. same_text (encode_utf8_all m.0) (encode_utf8_all name)) ms

-- the first name of a first match that stands in the rest too
abbrev pub doubled_in : Members → Members → Option (List ℕ)
doubled_in always first = option_map (λ m. m.0) (find (λ m. has_name m.0 (given always)) (given first))

-- the first name that is wrong: all objects are validated, and then merged, in order
abbrev pub wrong_name : Members → List Members → Option (List ℕ)
wrong_name always firsts = or_else (first_of wrong_in (always ∷ firsts)) (first_of (doubled_in always) firsts)

abbrev pub merge : Members → Members → Members
merge always first = given always ++ given first

-- the first merge that this end matches
abbrev pub chosen : List ℕ → Members → List Members → Option Members
chosen offered always firsts = find (list_all (is_match offered)) (map (merge always) firsts)
