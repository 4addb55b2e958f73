-- Looking in a merge is looking in its parts, and looking in a list of objects is looking in each.
use Rattle.std.proofs.Common.{length, drop, get_or, suc, drop-cons, ◌<◌, ◌≡◌, ℕ, List, [], ◌∷◌, ◌++◌, map, Bool, true, false, cond, Option, Some, None, refl, sym, ap, ◌∙◌}
use Rattle.std.specs.List.{find, list_all}
use Rattle.std.specs.Option.{option_map}
use Rattle.std.specs.Str.{encode_utf8_all}
use Rattle.wd_json.specs.declared.value.Json.{Json}
use Rattle.capabilities.specs.Values.{Member, Members, members_of, value_of, same_text}
use Rattle.capabilities.specs.Table.{is_match}
use Rattle.capabilities.specs.Choice.{given, or_else, merge, chosen, first_of, wrong_in, doubled_in, wrong_name}

find-append : {X : Type 0} (test : X → Bool) (xs ys : List X) → find test (xs ++ ys) ≡ or_else (find test xs) (find test ys)
find-append test [] ys = refl
find-append {X} test (x ∷ xs) ys = by (test x) (find-append test xs ys)
  where
    by : (v : Bool) → find test (xs ++ ys) ≡ or_else (find test xs) (find test ys) → cond v (Some x) (find test (xs ++ ys)) ≡ or_else (cond v (Some x) (find test xs)) (find test ys)
    by true ih = refl
    by false ih = ih

map-or : {X Y : Type 0} (f : X → Y) (o p : Option X) → option_map f (or_else o p) ≡ or_else (option_map f o) (option_map f p)
map-or f None p = refl
map-or f (Some x) p = refl

pub value-merge : (name : List ℕ) (always first : Members) → value_of name (merge always first) ≡ or_else (value_of name (given always)) (value_of name (given first))
value-merge name always first =
    let test : Member → Bool = λ m. same_text (encode_utf8_all m.0) name in
    ap (option_map (λ (m : Member). m.1)) (find-append test (given always) (given first)) ∙ map-or (λ (m : Member). m.1) (find test (given always)) (find test (given first))

find-map : {X Y : Type 0} (test : Y → Bool) (f : X → Y) (xs : List X) → find test (map f xs) ≡ option_map f (find (λ x. test (f x)) xs)
find-map test f [] = refl
find-map {X} {Y} test f (x ∷ xs) = by (test (f x)) (find-map test f xs)
  where
    by : (v : Bool) → find test (map f xs) ≡ option_map f (find (λ x. test (f x)) xs) → cond v (Some (f x)) (find test (map f xs)) ≡ option_map f (cond v (Some x) (find (λ x. test (f x)) xs))
    by true ih = refl
    by false ih = ih

-- the merge of an object with the members that are always wanted
abbrev pub merged : Members → Json → Members
merged always v = merge always (members_of v)

map-twice : (always : Members) (vs : List Json) → map (merge always) (map members_of vs) ≡ map (merged always) vs
map-twice always [] = refl
map-twice always (v ∷ vs) = ap (λ ms. merged always v ∷ ms) (map-twice always vs)

pub chosen-first : (offered : List ℕ) (always : Members) (vs : List Json)
    → chosen offered always (map members_of vs) ≡ option_map (merged always) (find (λ v. list_all (is_match offered) (merge always (members_of v))) vs)
chosen-first offered always vs = ap (find (list_all (is_match offered))) (map-twice always vs) ∙ find-map (list_all (is_match offered)) (merged always) vs

pub first_of-map : (f : Members → Option (List ℕ)) (vs : List Json) → first_of f (map members_of vs) ≡ first_of (λ v. f (members_of v)) vs
first_of-map f [] = refl
first_of-map f (v ∷ vs) = ap (or_else (f (members_of v))) (first_of-map f vs)

-- the first answer is that of the object at hand
pub first_of_here : (f : Json → Option (List ℕ)) (xs : List Json) (i : ℕ) (x : Json) (n : List ℕ) → i < length xs → x ≡ get_or xs i x → Some n ≡ f x
    → first_of f (drop i xs) ≡ first_of f xs → Some n ≡ first_of f xs
first_of_here f xs i x n l e s h =
    let d = drop-cons xs i x l in
    let at : first_of f (drop i xs) ≡ or_else (f (get_or xs i x)) (first_of f (drop (suc i) xs)) = ap (first_of f) d in
    let y : f (get_or xs i x) ≡ Some n = ap f (sym e) ∙ sym s in
    sym (ap (λ o. or_else o (first_of f (drop (suc i) xs))) y) ∙ sym at ∙ h

-- the wrong name is looked for in three places, one after another
pub wrong_name-parts : (always : Members) (vs : List Json)
    → wrong_name always (map members_of vs) ≡ or_else (or_else (wrong_in always) (first_of (λ v. wrong_in (members_of v)) vs)) (first_of (λ v. doubled_in always (members_of v)) vs)
wrong_name-parts always vs = rw (first_of-map wrong_in vs, first_of-map (doubled_in always) vs) refl

pub wrong_name-second : (always : Members) (vs : List Json) (name : List ℕ) → wrong_in always ≡ None → Some name ≡ first_of (λ v. wrong_in (members_of v)) vs → Some name ≡ wrong_name always (map members_of vs)
wrong_name-second always vs name a s =
    let validated : Option (List ℕ) = first_of (λ v. wrong_in (members_of v)) vs in
    let doubled : Option (List ℕ) = first_of (λ v. doubled_in always (members_of v)) vs in
    sym (wrong_name-parts always vs ∙ ap (λ o. or_else (or_else o validated) doubled) a ∙ ap (λ o. or_else o doubled) (sym s))

pub wrong_name-third : (always : Members) (vs : List Json) (o : Option (List ℕ)) → wrong_in always ≡ None → first_of (λ v. wrong_in (members_of v)) vs ≡ None → o ≡ first_of (λ v. doubled_in always (members_of v)) vs
    → o ≡ wrong_name always (map members_of vs)
wrong_name-third always vs o a s d =
    let validated : Option (List ℕ) = first_of (λ v. wrong_in (members_of v)) vs in
    let doubled : Option (List ℕ) = first_of (λ v. doubled_in always (members_of v)) vs in
    sym (wrong_name-parts always vs ∙ ap (λ p. or_else (or_else p validated) doubled) a ∙ ap (λ p. or_else p doubled) s ∙ sym d)
