-- The kinds of a JSON value, and the members of an object as a list.
use Rattle.std.specs.Prelude.{ℕ, List, [], Bool, true, false, Option, Some, None, is_some, nat_eq}
use Rattle.std.specs.List.{find}
use Rattle.std.specs.Option.{option_map, unwrap_or}
use Rattle.std.specs.Str.{encode_utf8_all}
use Rattle.std.specs.Cmp.Lexicographic.{pointwise}
use Rattle.wd_json.specs.declared.value.Json.{Json, out-Json}
use Rattle.wd_json.specs.declared.value.Json.TheOpen.{Json-F}

-- a member of an object: its name, as characters, and its value
abbrev pub Member : Type 0
Member = List ℕ × Json

abbrev pub Members : Type 0
Members = List Member

-- two texts, as their UTF-8 bytes, are the same
abbrev pub same_text : List ℕ → List ℕ → Bool
same_text a b = pointwise nat_eq a b

abbrev null_in : {A : Type 0} → Json-F A → Bool
null_in Json-F.Null = true
null_in v = false

abbrev pub is_null : Json → Bool
is_null v = null_in (out-Json v)

abbrev bool_in : {A : Type 0} → Json-F A → Option Bool
bool_in (Json-F.Bool b) = Some b
bool_in v = None

abbrev pub bool_of : Json → Option Bool
bool_of v = bool_in (out-Json v)

abbrev text_in : {A : Type 0} → Json-F A → Option (List ℕ)
text_in (Json-F.Text t) = Some (encode_utf8_all t)
text_in v = None

-- the bytes of a text
abbrev pub text_of : Json → Option (List ℕ)
text_of v = text_in (out-Json v)

abbrev pub list_in : {A : Type 0} → Json-F A → Option (List A)
list_in (Json-F.List vs) = Some vs
list_in v = None

abbrev pub list_of : Json → Option (List Json)
list_of v = list_in (out-Json v)

abbrev pub object_in : {A : Type 0} → Json-F A → Option (List (List ℕ × A))
object_in (Json-F.Object ms) = Some ms
object_in v = None

-- the members of an object, in the order of their names' bytes
abbrev pub object_of : Json → Option Members
object_of v = object_in (out-Json v)

abbrev pub is_object : Json → Bool
is_object v = is_some (object_of v)

-- the members of an object, and none for anything else
abbrev pub members_of : Json → Members
members_of v = unwrap_or (object_of v) []

-- the value of the first member with that name
abbrev pub value_of : List ℕ → Members → Option Json
value_of name ms = option_map (λ m. m.1) (find (λ m. same_text (encode_utf8_all m.0) name) ms)

-- whether it is a text that passes a test
abbrev pub text_passes : (List ℕ → Bool) → Json → Bool
text_passes test v = unwrap_or (option_map test (text_of v)) false
