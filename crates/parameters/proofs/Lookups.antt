-- The members of an object, and the value at a key, which is that of the first member with the name.
use Rattle.std.proofs.Common.{◌≡◌, ℕ, List, [], ◌∷◌, Bool, true, false, cond, Option, Some, refl, ap, ◌∙◌, rules}
use Rattle.std.proofs.lemmas.Map.Text.{is_eq-slice_cmp}
use Rattle.std.specs.List.{find}
use Rattle.std.specs.Option.{option_map}
use Rattle.std.specs.Str.{encode_utf8_all}
use Rattle.capabilities.specs.Values.{Member, Members, same_text, object_of, value_of}
use Rattle.wd_json.specs.Keys.{get}
use Rattle.wd_json.specs.declared.value.Json.{Json, the_lemmas}
use Rattle.wd_json.specs.declared.value.Json.TheVariants.{Object}

pub object_of-Object : (ms : Members) → object_of (Object ms) ≡ Some ms
object_of-Object ms = search (the_lemmas, rules)

chosen : (here : Bool) (m : Member) (one : Option Json) (other : Option Member) → one ≡ option_map (λ (n : Member). n.1) other → cond here (Some m.1) one ≡ option_map (λ (n : Member). n.1) (cond here (Some m) other)
chosen true m one other e = refl
chosen false m one other e = e

pub get-value : (name : List ℕ) (ms : Members) → get name ms ≡ value_of name ms
get-value name [] = refl
get-value name (m ∷ ms) =
    ap (λ here. cond here (Some m.1) (get name ms)) (is_eq-slice_cmp (encode_utf8_all m.0) name)
    ∙ chosen (same_text (encode_utf8_all m.0) name) m (get name ms) (find (λ n. same_text (encode_utf8_all n.0) name) ms) (get-value name ms)
