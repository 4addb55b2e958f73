-- Document order is the order of the nodes' paths.
use Rattle.std.proofs.Common.{◌≡◌, ℕ, zero, suc, ◌+◌, ◌<◌, ◌≤◌, Bool, true, false, cond, List, [], ◌∷◌, ◌++◌, Option, Some, None, Less, Equal, length, map, reverse, eqb, eq-eqb, refl, sym, ap, ◌∙◌, subst, arith, append_assoc, append-nil, length-append, inl, inr}
use Rattle.std.specs.List.{All, AllByRecursion, flat_map}
use Rattle.std.proofs.lemmas.List.Elements.{All-from_recursion}
use Rattle.std.specs.Ordering.{nat_cmp}
use Rattle.std.proofs.lemmas.List.{map-append, reverse-append, get_or_past}
use Rattle.std.proofs.lemmas.Bool.{cases_lt}
use Rattle.page_tree.specs.Places.{up_of, kids_of, times, points_to, onwards, chain, lineage, depth, walk, place_in, place_under, place_of, path_of, comes_before, AreInOrder}
use Rattle.page_tree.proofs.Chains.{chain-suc, chain-zero}
use Rattle.page_tree.proofs.Counts.{times-append}

-- ---- the order of paths
equal_first : (x : ℕ) → nat_cmp x x ≡ Equal
equal_first x = grind arith

less_first : (i j : ℕ) → i < j → nat_cmp i j ≡ Less
less_first i j h = grind arith

before_at : (p q r : List ℕ) (i j : ℕ) → i < j → comes_before (p ++ i ∷ q) (p ++ j ∷ r)
before_at [] q r i j h = rw (less_first i j h) refl
before_at (x ∷ p) q r i j h = rw (equal_first x) (before_at p q r i j h)

before_below : (p q : List ℕ) (i : ℕ) → comes_before p (p ++ i ∷ q)
before_below [] q i = refl
before_below (x ∷ p) q i = rw (equal_first x) (before_below p q i)

all_append : {X : Type 0} (P : X → Type 0) (xs ys : List X) → AllByRecursion P xs → AllByRecursion P ys → AllByRecursion P (xs ++ ys)
all_append P [] ys a b = b
all_append P (x ∷ xs) ys a b = (a.0, all_append P xs ys a.1 b)

all_imply : {X : Type 0} (P Q : X → Type 0) (xs : List X) → ((x : X) → P x → Q x) → AllByRecursion P xs → AllByRecursion Q xs
all_imply P Q [] h a = tt
all_imply P Q (x ∷ xs) h a = (h x a.0, all_imply P Q xs h a.1)

order_append : (ps qs : List (List ℕ)) → AreInOrder ps → AreInOrder qs → AllByRecursion (λ p. AllByRecursion (comes_before p) qs) ps → AreInOrder (ps ++ qs)
order_append [] qs a b c = b
order_append (p ∷ ps) qs a b c = (all_append (comes_before p) ps qs a.0 c.0, order_append ps qs a.1 b c.1)

-- ---- a child's path
pub stable_on : (f g : ℕ → List ℕ) (o : Option ℕ) (s : ℕ) → ((p : ℕ) → length (f p) ≤ s → g p ≡ f p) → length (onwards f o) ≤ s → onwards g o ≡ onwards f o
stable_on f g None s h short = refl
stable_on f g (Some p) s h short = h p short

-- a chain that ends is not longer with more steps
pub stable : (s : ℕ) (ups : List (Option ℕ)) (n : ℕ) → length (chain s ups n) ≤ s → chain (suc s) ups n ≡ chain s ups n
stable zero ups n short = absurd (let e : length (chain 0 ups n) ≡ 1 = ap length (chain-zero ups n) in omega arith)
stable (suc s) ups n short =
    let e : length (chain (suc s) ups n) ≡ suc (length (onwards (chain s ups) (up_of ups n))) = ap length (chain-suc s ups n) in
    chain-suc (suc s) ups n ∙ ap (λ xs. n ∷ xs) (stable_on (chain s ups) (chain (suc s) ups) (up_of ups n) s (stable s ups) (omega arith)) ∙ sym (chain-suc s ups n)

pub pointed : (o : Option ℕ) (n : ℕ) → points_to n o ≡ true → o ≡ Some n
pointed None n h = cc
pointed (Some q) n h = let e : q ≡ n = grind arith in ap Some e

pub at_least_one : (b : Bool) (t : ℕ) → t ≡ cond b 1 0 → 1 ≤ t → b ≡ true
at_least_one true t h some = refl
at_least_one false t h some = absurd (omega arith)

at_most_one : (b : Bool) (t : ℕ) → t ≡ cond b 1 0 → t ≤ 1
at_most_one true t h = omega arith
at_most_one false t h = omega arith

place_at : (k : ℕ) (pre post : List ℕ) → times k pre ≡ 0 → place_in k (pre ++ k ∷ post) ≡ length pre
place_at k [] post none = rw (eq-eqb k k refl) refl
place_at k (x ∷ pre) post none = place_next k x pre post (eqb x k) none (place_at k pre post)
  where
    place_next : (k x : ℕ) (pre post : List ℕ) (b : Bool) → cond b 1 0 + times k pre ≡ 0 → (times k pre ≡ 0 → place_in k (pre ++ k ∷ post) ≡ length pre) → cond b 0 (1 + place_in k (pre ++ k ∷ post)) ≡ suc (length pre)
    place_next k x pre post true none rest = absurd (omega arith)
    place_next k x pre post false none rest = omega (arith, rest (omega arith))

pub walk-step : (s : ℕ) (kids : List (List ℕ)) (n : ℕ) → walk (suc s) kids n ≡ n ∷ flat_map (walk s kids) (kids_of kids n)
unfolding walk
walk-step s kids n = refl

pub walk-none : (kids : List (List ℕ)) (n : ℕ) → walk 0 kids n ≡ []
unfolding walk
walk-none kids n = refl

-- a path at another or below it
record IsUnder (top p : List ℕ) : Type 0 where
  rest : List ℕ
  is : p ≡ top ++ rest

-- a path below another, at that child or a later one
record IsUnderFrom (top : List ℕ) (least : ℕ) (p : List ℕ) : Type 0 where
  place : ℕ
  rest : List ℕ
  late : least ≤ place
  is : p ≡ top ++ place ∷ rest

record GoesInOrder (Under : List ℕ → Type 0) (ps : List (List ℕ)) : Type 0 where
  under : AllByRecursion Under ps
  order : AreInOrder ps

-- `below` lists what stands under each node, and `kids` the last of these, which the walk visits
module _ (ups : List (Option ℕ)) (below kids : List (List ℕ)) (front : ℕ → List ℕ) (split : (n : ℕ) → kids_of below n ≡ front n ++ kids_of kids n) (each : (p m : ℕ) → times m (kids_of below p) ≡ cond (points_to p (up_of ups m)) 1 0) (shallow : (n : ℕ) → length (lineage ups n) ≤ 200) where
  abbrev pub path : ℕ → List ℕ
  path n = path_of ups below n

  child_times : (n : ℕ) (pre : List ℕ) (k : ℕ) (post : List ℕ) → kids_of below n ≡ pre ++ k ∷ post → times k pre + (1 + times k post) ≡ cond (points_to n (up_of ups k)) 1 0
  child_times n pre k post is = sym (times-append k pre (k ∷ post) ∙ ap (λ b. times k pre + (cond b 1 0 + times k post)) (eq-eqb k k refl)) ∙ sym (ap (times k) is) ∙ each n k

  child_up : (n : ℕ) (pre : List ℕ) (k : ℕ) (post : List ℕ) → kids_of below n ≡ pre ++ k ∷ post → up_of ups k ≡ Some n
  child_up n pre k post is = pointed (up_of ups k) n (at_least_one (points_to n (up_of ups k)) (times k pre + (1 + times k post)) (child_times n pre k post is) (omega arith))

  child_place : (n : ℕ) (pre : List ℕ) (k : ℕ) (post : List ℕ) → kids_of below n ≡ pre ++ k ∷ post → place_of ups below k ≡ length pre
  child_place n pre k post is =
      let once : times k pre + (1 + times k post) ≤ 1 = at_most_one (points_to n (up_of ups k)) (times k pre + (1 + times k post)) (child_times n pre k post is) in
      ap (place_under below k) (child_up n pre k post is) ∙ ap (place_in k) is ∙ place_at k pre post (omega arith)

  child_lineage : (n k : ℕ) → up_of ups k ≡ Some n → lineage ups k ≡ k ∷ lineage ups n
  child_lineage n k up =
      let first : chain 200 ups k ≡ k ∷ chain 199 ups n = chain-suc 199 ups k ∙ ap (λ o. k ∷ onwards (chain 199 ups) o) up in
      let short : length (chain 199 ups n) ≤ 199 = (let e : length (chain 200 ups k) ≡ suc (length (chain 199 ups n)) = ap length first in omega (arith, shallow k)) in
      first ∙ ap (λ xs. k ∷ xs) (sym (stable 199 ups n short))

  pub depth_up : (n k : ℕ) → up_of ups k ≡ Some n → depth ups k ≡ depth ups n + 1
  depth_up n k up = ap length (child_lineage n k up) ∙ omega arith

  pub depth_top : (k : ℕ) → up_of ups k ≡ None → depth ups k ≡ 1
  depth_top k up = ap length (chain-suc 199 ups k ∙ ap (λ o. k ∷ onwards (chain 199 ups) o) up)

  pub child_path : (n : ℕ) (pre : List ℕ) (k : ℕ) (post : List ℕ) → kids_of below n ≡ pre ++ k ∷ post → path k ≡ path n ++ length pre ∷ []
  child_path n pre k post is =
      let place = place_of ups below in
      ap (λ xs. reverse (map place xs)) (child_lineage n k (child_up n pre k post is)) ∙ reverse-append (place k ∷ []) (map place (lineage ups n))
      ∙ ap (λ i. path_of ups below n ++ i ∷ []) (child_place n pre k post is)

  from_child : (n k i : ℕ) (p : List ℕ) → path k ≡ path n ++ i ∷ [] → IsUnder (path k) p → IsUnderFrom (path n) i p
  from_child n k i p is under = record { place = i; rest = under.rest; late = omega arith; is = under.is ∙ ap (λ q. q ++ under.rest) is ∙ append_assoc (path n) (i ∷ []) under.rest }

  apart : (n i : ℕ) (p q : List ℕ) (e : IsUnderFrom (path n) i p) (f : IsUnderFrom (path n) (i + 1) q) → e.place ≡ i → comes_before p q
  apart n i p q e f at = rw (e.is, f.is) (before_at (path n) e.rest f.rest e.place f.place (omega (arith, f.late)))

  children_in_order : (s n : ℕ) → ((k : ℕ) → GoesInOrder (IsUnder (path k)) (map path (walk s kids k))) → (pre ks : List ℕ) → kids_of below n ≡ pre ++ ks
      → GoesInOrder (IsUnderFrom (path n) (length pre)) (map path (flat_map (walk s kids) ks))
  unfolding from_child
  children_in_order s n each_child pre [] is = record { under = tt; order = tt }
  children_in_order s n each_child pre (k ∷ ks) is =
      let i = length pre in
      let here = each_child k in
      let at : path k ≡ path n ++ i ∷ [] = child_path n pre k ks is in
      let longer : length (pre ++ k ∷ []) ≡ i + 1 = length-append pre (k ∷ []) in
      let later : GoesInOrder (IsUnderFrom (path n) (i + 1)) (map path (flat_map (walk s kids) ks)) = subst (λ m. GoesInOrder (IsUnderFrom (path n) m) (map path (flat_map (walk s kids) ks))) longer (children_in_order s n each_child (pre ++ k ∷ []) ks (is ∙ sym (append_assoc pre (k ∷ []) ks))) in
      subst (GoesInOrder (IsUnderFrom (path n) i)) (sym (map-append path (walk s kids k) (flat_map (walk s kids) ks))) (record {
        under = all_append (IsUnderFrom (path n) i) (map path (walk s kids k)) (map path (flat_map (walk s kids) ks))
            (all_imply (IsUnder (path k)) (IsUnderFrom (path n) i) (map path (walk s kids k)) (λ p u. from_child n k i p at u) here.under)
            (all_imply (IsUnderFrom (path n) (i + 1)) (IsUnderFrom (path n) i) (map path (flat_map (walk s kids) ks)) (λ p u. record { place = u.place; rest = u.rest; late = omega (arith, u.late); is = u.is }) later.under);
        order = order_append (map path (walk s kids k)) (map path (flat_map (walk s kids) ks)) here.order later.order
            (all_imply (IsUnder (path k)) (λ p. AllByRecursion (comes_before p) (map path (flat_map (walk s kids) ks))) (map path (walk s kids k))
            (λ p u. all_imply (IsUnderFrom (path n) (i + 1)) (comes_before p) (map path (flat_map (walk s kids) ks)) (λ q v. apart n i p q (from_child n k i p at u) v refl) later.under) here.under);
      })

  walk_in_order : (s n : ℕ) → GoesInOrder (IsUnder (path n)) (map path (walk s kids n))
  walk_in_order zero n = rw walk-none (record { under = tt; order = tt })
  walk_in_order (suc s) n =
      let lower = children_in_order s n (walk_in_order s) (front n) (kids_of kids n) (split n) in
      rw walk-step (record {
        under = (record { rest = []; is = sym (append-nil (path n)) }, all_imply (IsUnderFrom (path n) (length (front n))) (IsUnder (path n)) (map path (flat_map (walk s kids) (kids_of kids n))) (λ p u. record { rest = u.place ∷ u.rest; is = u.is }) lower.under);
        order = (all_imply (IsUnderFrom (path n) (length (front n))) (comes_before (path n)) (map path (flat_map (walk s kids) (kids_of kids n))) (λ p u. rw (u.is) (before_below (path n) u.rest u.place)) lower.under, lower.order);
      })

  -- a node and what is below it are in the order of their paths
  pub subtree_in_order : (n : ℕ) → AreInOrder (map path (walk 200 kids n))
  subtree_in_order n = (walk_in_order 200 n).order

  -- ---- a walk meets nodes only
  kid_within : (n : ℕ) (pre : List ℕ) (k : ℕ) (post : List ℕ) → kids_of below n ≡ pre ++ k ∷ post → k < length ups
  kid_within n pre k post is = elim (cases_lt k (length ups)) [
    | inl within ↦ within
    | inr past ↦ absurd (let same : Some n ≡ None = sym (child_up n pre k post is) ∙ get_or_past ups k None past in cc)
  ]

  all_within : (n : ℕ) (pre ks : List ℕ) → kids_of below n ≡ pre ++ ks → AllByRecursion (λ m. m < length ups) ks
  all_within n pre [] is = tt
  all_within n pre (k ∷ ks) is = (kid_within n pre k ks is, all_within n (pre ++ k ∷ []) ks (is ∙ sym (append_assoc pre (k ∷ []) ks)))

  pub kids_within : (n : ℕ) → All (λ m. m < length ups) (kids_of kids n)
  kids_within n = All-from_recursion (λ m. m < length ups) (kids_of kids n) (all_within n (front n) (kids_of kids n) (split n))

  children_within : (s n : ℕ) → ((k : ℕ) → k < length ups → AllByRecursion (λ m. m < length ups) (walk s kids k)) → (pre ks : List ℕ) → kids_of below n ≡ pre ++ ks → AllByRecursion (λ m. m < length ups) (flat_map (walk s kids) ks)
  children_within s n each_child pre [] is = tt
  children_within s n each_child pre (k ∷ ks) is =
      all_append (λ m. m < length ups) (walk s kids k) (flat_map (walk s kids) ks) (each_child k (kid_within n pre k ks is)) (children_within s n each_child (pre ++ k ∷ []) ks (is ∙ sym (append_assoc pre (k ∷ []) ks)))

  walk_within : (s n : ℕ) → n < length ups → AllByRecursion (λ m. m < length ups) (walk s kids n)
  walk_within zero n within = rw walk-none tt
  walk_within (suc s) n within = rw walk-step (within, children_within s n (walk_within s) (front n) (kids_of kids n) (split n))

  pub document_within : 0 < length ups → All (λ m. m < length ups) (walk 200 kids 0)
  document_within some = All-from_recursion (λ m. m < length ups) (walk 200 kids 0) (walk_within 200 0 some)
