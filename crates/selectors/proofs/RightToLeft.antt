-- A node is among the nodes that compounds and combinators name exactly if it matches from right to left.
use Rattle.std.proofs.Common.{◌≡◌, ℕ, zero, suc, ◌+◌, ◌-◌, ◌<◌, ◌≤◌, Bool, true, false, cond, List, [], ◌∷◌, ◌++◌, Some, length, take, get_or, reverse, eqb, eq-eqb, refl, sym, ap, ◌∙◌, arith, inl, inr}
use Rattle.std.specs.Prelude.{◌&&◌, ◌||◌, filter, slice_get}
use Rattle.std.specs.List.{list_any, list_all, range_with_len}
use Rattle.std.specs.Option.{option_map}
use Rattle.std.proofs.lemmas.List.{reverse-append, take_more}
use Rattle.std.proofs.lemmas.Option.{slice_get_past, slice_get-get_or, slice_get_within}
use Rattle.std.proofs.lemmas.Bool.{cases_eq, cases_lt}
use Rattle.page_tree.specs.Places.{contains}
use Rattle.page_tree.specs.Rows.{Rows, is_element_kind}
use Rattle.selectors.specs.Meets.{meets, meets_all}
use Rattle.selectors.specs.Named.{Join, left_of, compound_nodes, joined, all_joined, complex_nodes, matches_from}
use Rattle.selectors.specs.declared.selector.Complex.{Complex}
use Rattle.selectors.specs.declared.selector.Simple.{Simple}

and_false : (b : Bool) → (b && false) ≡ false
and_false true = refl
and_false false = refl

any_same : (p q : ℕ → Bool) (xs : List ℕ) → ((x : ℕ) → p x ≡ q x) → list_any p xs ≡ list_any q xs
any_same p q xs h = ap (λ f. list_any f xs) (λ i x. h x i)

-- ---- a filter
kept_at : (p : ℕ → Bool) (n y : ℕ) (ys : List ℕ) (b : Bool) → p y ≡ b → contains n (filter p ys) ≡ (contains n ys && p n) → contains n (cond b (y ∷ filter p ys) (filter p ys)) ≡ ((eqb y n || contains n ys) && p n)
kept_at p n y ys b h rest = elim (cases_eq y n) [
  | inl same ↦ kept_same p n y ys b same (sym (ap p same) ∙ h) rest
  | inr apart ↦ kept_apart p n y ys b (grind (arith, apart)) rest
]
  where
    kept_same : (p : ℕ → Bool) (n y : ℕ) (ys : List ℕ) (b : Bool) → y ≡ n → p n ≡ b → contains n (filter p ys) ≡ (contains n ys && p n) → contains n (cond b (y ∷ filter p ys) (filter p ys)) ≡ ((eqb y n || contains n ys) && p n)
    kept_same p n y ys true same h rest = rw (eq-eqb y n same, h) refl
    kept_same p n y ys false same h rest = rw (eq-eqb y n same, h) (rest ∙ ap (λ c. contains n ys && c) h ∙ and_false (contains n ys))

    kept_apart : (p : ℕ → Bool) (n y : ℕ) (ys : List ℕ) (b : Bool) → eqb y n ≡ false → contains n (filter p ys) ≡ (contains n ys && p n) → contains n (cond b (y ∷ filter p ys) (filter p ys)) ≡ ((eqb y n || contains n ys) && p n)
    kept_apart p n y ys true apart rest = rw apart rest
    kept_apart p n y ys false apart rest = rw apart rest

pub contains-filter : (p : ℕ → Bool) (n : ℕ) (xs : List ℕ) → contains n (filter p xs) ≡ (contains n xs && p n)
contains-filter p n [] = refl
contains-filter p n (y ∷ ys) = kept_at p n y ys (p y) refl (contains-filter p n ys)

-- ---- the nodes picked by a condition
range_has : (a n x : ℕ) → a ≤ x → x < a + n → contains x (range_with_len a n) ≡ true
range_has a zero x low high = absurd (omega arith)
range_has a (suc n) x low high = elim (cases_eq a x) [
  | inl same ↦ rw (eq-eqb a x same) refl
  | inr apart ↦ ap (λ b. eqb a x || b) (range_has (a + 1) n x (omega arith) (omega arith)) ∙ or_true (eqb a x)
]
  where
    or_true : (b : Bool) → (b || true) ≡ true
    or_true true = refl
    or_true false = refl

-- no element has a number past the rows
past : (rows : Rows) (simples : List Simple) (n : ℕ) → length rows.contents ≤ n → meets_all rows simples n ≡ false
past rows simples n far = ap (λ o. is_element_kind (option_map (λ content. content.kind) o) && list_all (meets rows n) simples) (slice_get_past rows.contents n far)

compound_is : (rows : Rows) (simples : List Simple) (n : ℕ) → contains n (compound_nodes rows simples) ≡ meets_all rows simples n
compound_is rows simples n = contains-filter (meets_all rows simples) n (range_with_len 0 (length rows.contents)) ∙ elim (cases_lt n (length rows.contents)) [
  | inl within ↦ ap (λ b. b && meets_all rows simples n) (range_has 0 (length rows.contents) n (omega arith) (omega arith))
  | inr far ↦ ap (λ b. contains n (range_with_len 0 (length rows.contents)) && b) (past rows simples n far) ∙ and_false (contains n (range_with_len 0 (length rows.contents))) ∙ sym (past rows simples n far)
]

-- ---- joins
same_base : (p q : ℕ → Bool) (rows : Rows) (joins : List Join) (n : ℕ) → ((x : ℕ) → p x ≡ q x) → matches_from p rows joins n ≡ matches_from q rows joins n
same_base p q rows joins n h = ap (λ f. matches_from f rows joins n) (λ i x. h x i)

matches_from-push : (base : ℕ → Bool) (rows : Rows) (joins : List Join) (join : Join) (n : ℕ) → matches_from base rows (joins ++ join ∷ []) n ≡ matches_from (matches_from base rows (join ∷ [])) rows joins n
matches_from-push base rows [] join n = refl
matches_from-push base rows (j ∷ joins) join n =
    ap (λ b. meets_all rows j.1 n && b) (any_same (matches_from base rows (joins ++ join ∷ [])) (matches_from (matches_from base rows (join ∷ [])) rows joins) (left_of j.0 rows n) (matches_from-push base rows joins join))

joined_is : (rows : Rows) (nodes : List ℕ) (join : Join) (n : ℕ) → contains n (joined rows nodes join) ≡ matches_from (λ k. contains k nodes) rows (join ∷ []) n
joined_is rows nodes join n =
    contains-filter (λ k. list_any (λ a. contains a nodes) (left_of join.0 rows k)) n (compound_nodes rows join.1)
    ∙ ap (λ b. b && list_any (λ a. contains a nodes) (left_of join.0 rows n)) (compound_is rows join.1 n)

all_joined_is : (rows : Rows) (nodes : List ℕ) (joins : List Join) (n : ℕ) → contains n (all_joined rows nodes joins) ≡ matches_from (λ k. contains k nodes) rows (reverse joins) n
all_joined_is rows nodes [] n = refl
all_joined_is rows nodes (join ∷ joins) n =
    all_joined_is rows (joined rows nodes join) joins n
    ∙ same_base (λ k. contains k (joined rows nodes join)) (matches_from (λ k. contains k nodes) rows (join ∷ [])) rows (reverse joins) n (joined_is rows nodes join)
    ∙ sym (matches_from-push (λ k. contains k nodes) rows (reverse joins) join n)
    ∙ ap (λ js. matches_from (λ k. contains k nodes) rows js n) (sym (reverse-append (join ∷ []) joins))

-- from left to right by sets, or from right to left at one node
pub complex_is : (rows : Rows) (complex : Complex) (n : ℕ) → contains n (complex_nodes rows complex) ≡ matches_from (meets_all rows complex.first) rows (reverse complex.rest) n
complex_is rows complex n =
    all_joined_is rows (compound_nodes rows complex.first) complex.rest n
    ∙ same_base (λ k. contains k (compound_nodes rows complex.first)) (meets_all rows complex.first) rows (reverse complex.rest) n (compound_is rows complex.first)

-- ---- one join, as the code takes it

last_join : (joins : List Join) (k : ℕ) (join : Join) → 0 < k → slice_get joins (k - 1) ≡ Some join → reverse (take k joins) ≡ join ∷ reverse (take (k - 1) joins)
last_join joins k join some at =
    let within : k - 1 < length joins = slice_get_within joins (k - 1) join at in
    let same : Some (get_or joins (k - 1) join) ≡ Some join = sym (slice_get-get_or joins (k - 1) join within) ∙ at in
    let item : get_or joins (k - 1) join ≡ join = cc in
    let back : k ≡ (k - 1) + 1 = omega arith in
    ap (λ n. reverse (take n joins)) back ∙ ap reverse (take_more joins (k - 1) join within ∙ ap (λ j. take (k - 1) joins ++ j ∷ []) item) ∙ reverse-append (take (k - 1) joins) (join ∷ [])

pub step : (base : ℕ → Bool) (rows : Rows) (joins : List Join) (k : ℕ) (join : Join) (n : ℕ) (met : Bool) → 0 < k → slice_get joins (k - 1) ≡ Some join → met ≡ meets_all rows join.1 n
    → matches_from base rows (reverse (take k joins)) n ≡ (met && list_any (matches_from base rows (reverse (take (k - 1) joins))) (left_of join.0 rows n))
step base rows joins k join n met some at is =
    ap (λ js. matches_from base rows js n) (last_join joins k join some at) ∙ ap (λ b. b && list_any (matches_from base rows (reverse (take (k - 1) joins))) (left_of join.0 rows n)) (sym is)
