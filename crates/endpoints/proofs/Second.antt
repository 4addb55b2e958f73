-- The session's segment stands second in each path that has one.
use Rattle.std.proofs.Common.{◌≡◌, ◌∙◌, ℕ, List, [], ◌∷◌, Bool, true, false, cond, Option, Some, None, is_some, length, drop, refl, arith, codes, slice_get, sym, ap, subst, rules}
use Rattle.std.proofs.lemmas.Bool.{false≢true, lt-ltb, and_parts}
use Rattle.std.specs.List.{position}
use Rattle.std.specs.Option.{option_map, option_and_then}
use Rattle.std.specs.Str.{encode_utf8_all}
use Rattle.std.specs.Cmp.Lexicographic.{bytes_decides}
use Rattle.percent_encoding.specs.Percent.{percent_decode}
use Rattle.endpoints.specs.declared.command.Command.{Command}
use Rattle.endpoints.specs.declared.route.Route.{Route}
use Rattle.endpoints.specs.Path.{same_text, fits, value_of}
use Rattle.endpoints.specs.Route.{asked, pattern, IsRouteOf}

abbrev named : List ℕ
named = codes "{session}"

-- a pattern that begins with a slash, `session`, and the variable
abbrev begun : List (List ℕ) → List (List ℕ)
begun rest = [] ∷ codes "session" ∷ named ∷ rest

abbrev has_named : List (List ℕ) → Bool
has_named parts = is_some (position (λ p. same_text p named) parts)

begins : (c : Command) → has_named (pattern c) ≡ true → pattern c ≡ begun (drop 3 (pattern c))
begins c = search rules

-- the path of a target that fits such a pattern, and what it has for the variable
abbrev Stands : List (List ℕ) → List ℕ → Type 0
Stands path text = (segment : List ℕ) × (rest : List (List ℕ)) × (path ≡ [] ∷ codes "session" ∷ segment ∷ rest) × (percent_decode segment ≡ text)

third : (rest : List (List ℕ)) → position (λ p. same_text p named) (begun rest) ≡ Some 2
third rest = ap (λ b. cond b (Some 2) None) (lt-ltb 2 (length (begun rest)) (omega arith))

on_path : (rest path : List (List ℕ)) (text : List ℕ) → fits (begun rest) path ≡ true → value_of named (begun rest) path ≡ Some text → Stands path text
on_path rest [] text f v = absurd (false≢true f)
on_path rest (a ∷ []) text f v = absurd (false≢true (and_parts (same_text [] a) false f).1)
on_path rest (a ∷ b ∷ []) text f v = absurd (false≢true (and_parts (same_text (codes "session") b) false (and_parts (same_text [] a) _ f).1).1)
on_path rest (a ∷ b ∷ c ∷ path) text f v =
    let g = and_parts (same_text [] a) _ f in
    let h = and_parts (same_text (codes "session") b) _ g.1 in
    let x : [] ≡ a = (bytes_decides [] a).0 g.0 in
    let y : codes "session" ≡ b = (bytes_decides (codes "session") b).0 h.0 in
    let z : Some (percent_decode c) ≡ Some text =
    sym (ap (λ o. option_map percent_decode (option_and_then (λ i. slice_get (a ∷ b ∷ c ∷ path) i) o)) (third rest)) ∙ v in
    (c, path, cc, cc)

no_place : (o : Option ℕ) (path : List (List ℕ)) (text : List ℕ) → option_map percent_decode (option_and_then (λ i. slice_get path i) o) ≡ Some text
    → is_some o ≡ true
no_place None path text e = cc
no_place (Some i) path text e = refl

pub second : (method target text : List ℕ) (route : Route) → IsRouteOf method target route → route.session ≡ Some text
    → Stands (asked target) (encode_utf8_all text)
second method target text route is e =
    let parts = pattern route.command in
    let path = asked target in
    let v : value_of named parts path ≡ Some (encode_utf8_all text) = sym is.session ∙ ap (option_map encode_utf8_all) e in
    let b : parts ≡ begun (drop 3 parts) = begins route.command (no_place (position (λ p. same_text p named) parts) path (encode_utf8_all text) v) in
    on_path (drop 3 parts) path (encode_utf8_all text) (subst (λ ps. fits ps path ≡ true) b is.path_fits) (subst (λ ps. value_of named ps path ≡ Some (encode_utf8_all text)) b v)
