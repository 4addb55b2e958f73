-- Lists whose keys differ, told by a set of the keys that were seen.
use Rattle.std.proofs.Common.{◌≡◌, ℕ, zero, suc, ◌+◌, ◌<◌, ◌≤◌, Bool, true, false, ◌&&◌, ◌||◌, not, List, [], ◌∷◌, ◌++◌, Some, None, length, take, drop, get_or, refl, sym, ap, subst, ◌∙◌, arith, tests}
use Rattle.std.proofs.lemmas.Bool.{and_from, not-true, or_from, or_parts}
use Rattle.std.specs.Prelude.{slice_get, nat_lt, String}
use Rattle.std.proofs.lemmas.List.{take_more, take-append-drop, at_drop_more}
use Rattle.std.proofs.lemmas.List.Folds.{list_any-append}
use Rattle.std.proofs.lemmas.Slice.Eq.{bytes_eq-Decides}
use Rattle.std.specs.BTreeSet.{BTreeSet, contains_text}
use Rattle.std.specs.List.{list_any}
use Rattle.std.specs.Str.{bytes_eq, chars, encode_utf8_all}
use Rattle.page_engine.specs.Books.{are_pairs, is_entry, is_book}
use Rattle.page_engine.specs.declared.book.BookEntry.{BookEntry}
use Rattle.page_file.proofs.Tests.{some_is}
use Rattle.page_file.proofs.Tests.{first_of, second_of}
use Rattle.page_file.specs.Seen.{HasKeys}

swap : (a b : Bool) → (a || b) ≡ (b || a)
swap true true = refl
swap true false = refl
swap false true = refl
swap false false = refl

plus_false : (a : Bool) → (a || false) ≡ a
plus_false true = refl
plus_false false = refl

same_tests : (a b : Bool) → (a ≡ true → b ≡ true) → (b ≡ true → a ≡ true) → a ≡ b
same_tests true b f g = sym (f refl)
same_tests false true f g = g refl
same_tests false false f g = refl

-- ---- lists whose keys differ

module _ {X : Type 0} (good : X → Bool) (key : X → List ℕ) where
  -- an entry has the key
  abbrev pub has_key : X → List X → Bool
  has_key x xs = list_any (λ other. bytes_eq (key other) (key x)) xs

  -- one of the entries has the key of this one
  abbrev pub is_had : X → List X → Bool
  is_had x xs = list_any (λ other. bytes_eq (key x) (key other)) xs

  abbrev pub differ : List X → Bool
  differ [] = true
  differ (x ∷ xs) = good x && (not (has_key x xs) && differ xs)

  pub differ_push : (xs : List X) (x : X) → differ xs ≡ true → good x ≡ true → is_had x xs ≡ false → differ (xs ++ x ∷ []) ≡ true
  differ_push [] x h g n = and_from (good x) true g refl
  differ_push (y ∷ ys) x h g n =
      let later = second_of (good y) (not (has_key y ys) && differ ys) h in
      let apart = or_parts (bytes_eq (key x) (key y)) (is_had x ys) n in
      let none : has_key y (ys ++ x ∷ []) ≡ false = list_any-append (λ other. bytes_eq (key other) (key y)) ys (x ∷ [])
      ∙ or_from (has_key y ys) (bytes_eq (key x) (key y) || false) (not-true (has_key y ys) (first_of (not (has_key y ys)) (differ ys) later)) (or_from (bytes_eq (key x) (key y)) false apart.0 refl) in
      and_from (good y) (not (has_key y (ys ++ x ∷ [])) && differ (ys ++ x ∷ [])) (first_of (good y) (not (has_key y ys) && differ ys) h)
      (and_from (not (has_key y (ys ++ x ∷ []))) (differ (ys ++ x ∷ [])) (ap not none) (differ_push ys x (second_of (not (has_key y ys)) (differ ys) later) g apart.1))

  pub last_good : (xs : List X) (x : X) (rest : List X) → differ (xs ++ x ∷ rest) ≡ true → good x ≡ true
  last_good [] x rest h = first_of (good x) (not (has_key x rest) && differ rest) h
  last_good (y ∷ ys) x rest h = last_good ys x rest (second_of (not (has_key y (ys ++ x ∷ rest))) (differ (ys ++ x ∷ rest)) (second_of (good y) (not (has_key y (ys ++ x ∷ rest)) && differ (ys ++ x ∷ rest)) h))

  pub last_new : (xs : List X) (x : X) (rest : List X) → differ (xs ++ x ∷ rest) ≡ true → is_had x xs ≡ false
  last_new [] x rest h = refl
  last_new (y ∷ ys) x rest h =
      let all = ys ++ x ∷ rest in
      let later = second_of (good y) (not (has_key y all) && differ all) h in
      let none = not-true (has_key y all) (first_of (not (has_key y all)) (differ all) later) in
      let parts = or_parts (has_key y ys) (bytes_eq (key x) (key y) || has_key y rest) (sym (list_any-append (λ other. bytes_eq (key other) (key y)) ys (x ∷ rest)) ∙ none) in
      let here = or_parts (bytes_eq (key x) (key y)) (has_key y rest) parts.1 in
      or_from (bytes_eq (key x) (key y)) (is_had x ys) here.0 (last_new ys x rest (second_of (not (has_key y all)) (differ all) later))

  pub split_at : (xs : List X) (i : ℕ) (x : X) → i < length xs → x ≡ get_or xs i x → xs ≡ take i xs ++ x ∷ drop (i + 1) xs
  split_at xs i x h is =
      sym (take-append-drop i xs) ∙ at_drop_more (λ ys. take i xs ++ ys) xs i x h ∙ ap (λ (y : X). take i xs ++ y ∷ drop (i + 1) xs) (sym is)

  -- one entry that isn't good, or has a key that was there, spoils the list
  pub bad_entry : (xs : List X) (i : ℕ) (x : X) → i < length xs → x ≡ get_or xs i x → good x ≡ false → differ xs ≡ false
  bad_entry xs i x h is bad = spoiled (differ xs) (λ all. sym bad ∙ last_good (take i xs) x (drop (i + 1) xs) (ap differ (sym (split_at xs i x h is)) ∙ all))
    where
      spoiled : (b : Bool) → (b ≡ true → false ≡ true) → b ≡ false
      spoiled true f = absurd (let e = f refl in cc)
      spoiled false f = refl

  pub old_key : (xs : List X) (i : ℕ) (x : X) → i < length xs → x ≡ get_or xs i x → is_had x (take i xs) ≡ true → differ xs ≡ false
  old_key xs i x h is had = spoiled (differ xs) (λ all. sym (last_new (take i xs) x (drop (i + 1) xs) (ap differ (sym (split_at xs i x h is)) ∙ all)) ∙ had)
    where
      spoiled : (b : Bool) → (b ≡ true → false ≡ true) → b ≡ false
      spoiled true f = absurd (let e = f refl in cc)
      spoiled false f = refl

pub pairs_differ : (count : ℕ) (ps : List (List ℕ × ℕ)) → are_pairs count ps ≡ differ (λ (p : List ℕ × ℕ). nat_lt p.1 count) (λ (p : List ℕ × ℕ). p.0) ps
pairs_differ count [] = refl
pairs_differ count (p ∷ ps) = ap (λ b. nat_lt p.1 count && (not (list_any (λ (other : List ℕ × ℕ). bytes_eq other.0 p.0) ps) && b)) (pairs_differ count ps)

pub book_differs : (es : List BookEntry) → is_book es ≡ differ is_entry (λ (e : BookEntry). e.script) es
book_differs [] = refl
book_differs (e ∷ es) = ap (λ b. is_entry e && (not (list_any (λ (other : BookEntry). bytes_eq other.script e.script) es) && b)) (book_differs es)

-- ---- what was seen

code_eq : (t o : List ℕ) → chars (encode_utf8_all t) ≡ t → chars (encode_utf8_all o) ≡ o → bytes_eq (encode_utf8_all o) (encode_utf8_all t) ≡ bytes_eq t o
code_eq t o at_t at_o = same_tests (bytes_eq (encode_utf8_all o) (encode_utf8_all t)) (bytes_eq t o)
    (λ h. (bytes_eq-Decides t o).1 (sym at_t ∙ ap chars (sym ((bytes_eq-Decides (encode_utf8_all o) (encode_utf8_all t)).0 h)) ∙ at_o))
    (λ h. (bytes_eq-Decides (encode_utf8_all o) (encode_utf8_all t)).1 (ap encode_utf8_all (sym ((bytes_eq-Decides t o).0 h))))

codes_eq : {X : Type 0} (key : X → List ℕ) (t : List ℕ) (xs : List X) → chars (encode_utf8_all t) ≡ t → ((n : ℕ) (x : X) → slice_get xs n ≡ Some x → chars (encode_utf8_all (key x)) ≡ key x)
    → list_any (λ o. bytes_eq (encode_utf8_all (key o)) (encode_utf8_all t)) xs ≡ list_any (λ o. bytes_eq t (key o)) xs
codes_eq key t [] at each = refl
codes_eq key t (x ∷ xs) at each =
    ap (λ b. b || list_any (λ o. bytes_eq (encode_utf8_all (key o)) (encode_utf8_all t)) xs) (code_eq t (key x) at (each 0 x refl))
    ∙ ap (λ b. bytes_eq t (key x) || b) (codes_eq key t xs at (λ n. each (suc n)))

pub had_is : {X Y : Type 0} (key : X → List ℕ) (set : BTreeSet (String Y)) (xs : List X) (x : X) → HasKeys key set xs → chars (encode_utf8_all (key x)) ≡ key x
    → contains_text set (encode_utf8_all (key x)) ≡ list_any (λ other. bytes_eq (key x) (key other)) xs
had_is key set xs x has at = has.bytes (encode_utf8_all (key x)) ∙ codes_eq key (key x) xs at has.texts

get_more : {X : Type 0} (P : X → Type 0) (xs : List X) (x : X) → ((n : ℕ) (y : X) → slice_get xs n ≡ Some y → P y) → P x → (n : ℕ) (y : X) → slice_get (xs ++ x ∷ []) n ≡ Some y → P y
get_more P [] x each here zero y at = subst P (some_is x y at) here
get_more P [] x each here (suc n) y at = absurd (let e : None ≡ Some y = at in cc)
get_more P (w ∷ xs) x each here zero y at = each 0 y at
get_more P (w ∷ xs) x each here (suc n) y at = get_more P xs x (λ k. each (suc k)) here n y at

pub has_more : {X Y : Type 0} (key : X → List ℕ) (set new : BTreeSet (String Y)) (xs : List X) (x : X) → HasKeys key set xs → chars (encode_utf8_all (key x)) ≡ key x
    → ((cs : List ℕ) → contains_text new cs ≡ (bytes_eq (encode_utf8_all (key x)) cs || contains_text set cs)) → HasKeys key new (xs ++ x ∷ [])
has_more {X} key set new xs x has at grown = record {
  bytes = λ cs.
      let test = λ (y : X). bytes_eq (encode_utf8_all (key y)) cs in
      grown cs ∙ ap (λ b. test x || b) (has.bytes cs) ∙ swap (test x) (list_any test xs)
      ∙ ap (λ b. list_any test xs || b) (sym (plus_false (test x))) ∙ sym (list_any-append test xs (x ∷ []));
  texts = get_more (λ (y : X). chars (encode_utf8_all (key y)) ≡ key y) xs x has.texts at;
}

-- what noting a text answers
pub was_had : (b h : Bool) → b ≡ not h → b ≡ false → h ≡ true
was_had b true e f = refl
was_had b false e f = cc

pub was_new : (b h : Bool) → b ≡ not h → b ≡ true → h ≡ false
was_new b true e f = cc
was_new b false e f = refl

pub has_none_yet : {X Y : Type 0} (key : X → List ℕ) (set : BTreeSet (String Y)) → ((cs : List ℕ) → contains_text set cs ≡ false) → HasKeys {X = X} key set []
has_none_yet key set none = record { bytes = none; texts = λ n x at. absurd (let e : None ≡ Some x = at in cc) }

-- ---- the keys of an object's cells, read one by one

abbrev pub first_key : List ℕ × ℕ → List ℕ
first_key p = p.0

not_below : (a b : ℕ) → b ≤ a → nat_lt a b ≡ false
not_below a b h = grind (arith, tests)

is_below : (a b : ℕ) → a < b → nat_lt a b ≡ true
is_below a b h = grind (arith, tests)

module _ {Y : Type 0} (count : ℕ) (ps : List (List ℕ × ℕ)) (i : ℕ) (p : List ℕ × ℕ) (set : BTreeSet (String Y)) (within : i < length ps) (is : p ≡ get_or ps i p) (has : HasKeys first_key set (take i ps)) where
  pub far_place : count ≤ p.1 → are_pairs count ps ≡ false
  far_place far = pairs_differ count ps ∙ bad_entry (λ (p : List ℕ × ℕ). nat_lt p.1 count) first_key ps i p within is (not_below p.1 count far)

  pub key_again : contains_text set (encode_utf8_all p.0) ≡ true → chars (encode_utf8_all p.0) ≡ p.0 → are_pairs count ps ≡ false
  key_again had text = pairs_differ count ps ∙ old_key (λ (p : List ℕ × ℕ). nat_lt p.1 count) first_key ps i p within is (sym (had_is first_key set (take i ps) p has text) ∙ had)

  pub pairs_more : are_pairs count (take i ps) ≡ true → p.1 < count → contains_text set (encode_utf8_all p.0) ≡ false → chars (encode_utf8_all p.0) ≡ p.0
      → (new : BTreeSet (String Y)) → ((cs : List ℕ) → contains_text new cs ≡ (bytes_eq (encode_utf8_all p.0) cs || contains_text set cs))
      → (are_pairs count (take (i + 1) ps) ≡ true) × HasKeys first_key new (take (i + 1) ps)
  pairs_more differ near fresh text new grown =
      let more : take (i + 1) ps ≡ take i ps ++ p ∷ [] = take_more ps i p within ∙ ap (λ (q : List ℕ × ℕ). take i ps ++ q ∷ []) (sym is) in
      let apart = sym (had_is first_key set (take i ps) p has text) ∙ fresh in (
        ap (are_pairs count) more ∙ pairs_differ count (take i ps ++ p ∷ [])
            ∙ differ_push (λ (p : List ℕ × ℕ). nat_lt p.1 count) first_key (take i ps) p (sym (pairs_differ count (take i ps)) ∙ differ) (is_below p.1 count near) apart,
        subst (λ (qs : List (List ℕ × ℕ)). HasKeys first_key new qs) (sym more) (has_more first_key set new (take i ps) p has text grown),
      )
