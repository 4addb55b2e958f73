-- The members of a JSON object, and lists whose entries are each read.
use Rattle.std.specs.Prelude.{ℕ, ◌==◌, pos, Bool, false, List, [], ◌∷◌, Option, Some, None}
use Rattle.std.specs.List.{list_all, list_any}
use Rattle.std.specs.Option.{option_map, option_and_then}
use Rattle.std.specs.Str.{bytes_eq, encode_utf8_all}
use Rattle.wd_json.specs.declared.value.Json.{Json, out-Json}
use Rattle.wd_json.specs.declared.value.Json.TheOpen.{Json-F}

-- names and values
abbrev pub Members : Type 0
Members = List (List ℕ × Json)

abbrev object_in : Json-F Json → Option Members
object_in (Json-F.Object members) = Some members
object_in v = None

-- the members of an object
abbrev pub object_of : Json → Option Members
object_of v = object_in (out-Json v)

-- the name is one of these
abbrev pub is_one_of : List (List ℕ) → List ℕ → Bool
is_one_of names bytes = list_any (λ name. bytes_eq bytes name) names

-- no member has another name
abbrev pub has_only : List (List ℕ) → Members → Bool
has_only names members = list_all (λ m. is_one_of names (encode_utf8_all m.0)) members

abbrev is_one_in : {A : Type 0} → Json-F A → Bool
is_one_in (Json-F.Int (pos n)) = n == 1
is_one_in v = false

-- the number 1
abbrev pub is_one : Json → Bool
is_one v = is_one_in (out-Json v)

-- the member that says what a file is: it is there, and is the number 1
abbrev pub is_version : Option Json → Bool
is_version None = false
is_version (Some v) = is_one v

-- each entry is read
abbrev pub each_of : {A B : Type 0} → (A → Option B) → List A → Option (List B)
each_of read [] = Some []
each_of read (x ∷ xs) = option_and_then (λ y. option_map (λ ys. y ∷ ys) (each_of read xs)) (read x)

-- the value of a member that may be left out, and then stands for something
abbrev pub optional : {A : Type 0} → A → (Json → Option A) → Option Json → Option A
optional absent read None = Some absent
optional absent read (Some v) = read v
