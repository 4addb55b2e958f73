-- What is below a node is what the chain of parents ties to it.
use Rattle.std.proofs.Common.{◌≡◌, ℕ, zero, suc, ◌+◌, ◌≤◌, Bool, true, false, cond, List, [], ◌∷◌, ◌++◌, Option, Some, None, length, eqb, eq-eqb, refl, sym, ap, ◌∙◌, subst, arith, inl, inr, ◌⊎◌}
use Rattle.std.specs.Prelude.{◌||◌}
use Rattle.std.specs.List.{flat_map}
use Rattle.page_tree.specs.Places.{up_of, kids_of, times, points_to, contains, onwards, chain, lineage, walk}
use Rattle.page_tree.proofs.Chains.{chain-suc, chain-zero, contains_first}
use Rattle.page_tree.proofs.Paths.{walk-step, walk-none, stable_on, pointed, at_least_one}

pub or_split : (a b : Bool) → (a || b) ≡ true → (a ≡ true) ⊎ (b ≡ true)
or_split true b h = inl refl
or_split false b h = inr h

pub or_left : (a b : Bool) → a ≡ true → (a || b) ≡ true
or_left a b h = rw h refl

or_right : (a b : Bool) → b ≡ true → (a || b) ≡ true
or_right true b h = refl
or_right false b h = h

pub iff_same : (a b : Bool) → (a ≡ true → b ≡ true) → (b ≡ true → a ≡ true) → a ≡ b
iff_same true b f g = sym (f refl)
iff_same false true f g = g refl
iff_same false false f g = refl

pub same_number : (a b : ℕ) → eqb a b ≡ true → a ≡ b
same_number a b h = grind arith

in_append : (n : ℕ) (xs ys : List ℕ) → contains n (xs ++ ys) ≡ (contains n xs || contains n ys)
in_append n [] ys = refl
in_append n (x ∷ xs) ys = rw (in_append n xs ys) (assoc (eqb x n) (contains n xs) (contains n ys))
  where
    assoc : (a b c : Bool) → (a || (b || c)) ≡ ((a || b) || c)
    assoc true b c = refl
    assoc false b c = refl

flat_has : (f : ℕ → List ℕ) (ks : List ℕ) (k n : ℕ) → contains k ks ≡ true → contains n (f k) ≡ true → contains n (flat_map f ks) ≡ true
flat_has f [] k n at there = cc
flat_has f (x ∷ ks) k n at there = in_append n (f x) (flat_map f ks) ∙ elim (or_split (eqb x k) (contains k ks) at) [
  | inl here ↦ or_left (contains n (f x)) (contains n (flat_map f ks)) (ap (λ y. contains n (f y)) (same_number x k here) ∙ there)
  | inr later ↦ or_right (contains n (f x)) (contains n (flat_map f ks)) (flat_has f ks k n later there)
]

flat_from : (f : ℕ → List ℕ) (ks : List ℕ) (n : ℕ) → contains n (flat_map f ks) ≡ true → (k : ℕ) × (contains k ks ≡ true) × (contains n (f k) ≡ true)
flat_from f [] n h = absurd (let e : false ≡ true = h in cc)
flat_from f (x ∷ ks) n h = elim (or_split (contains n (f x)) (contains n (flat_map f ks)) (sym (in_append n (f x) (flat_map f ks)) ∙ h)) [
  | inl here ↦ (x, or_left (eqb x x) (contains x ks) (eq-eqb x x refl), here)
  | inr later ↦ (let found = flat_from f ks n later in (found.0, or_right (eqb x found.0) (contains found.0 ks) found.1, found.2))
]

pub has_times : (k : ℕ) (ks : List ℕ) → contains k ks ≡ true → 1 ≤ times k ks
has_times k [] h = absurd (let e : false ≡ true = h in cc)
has_times k (x ∷ ks) h = elim (or_split (eqb x k) (contains k ks) h) [ inl here ↦ rw here (omega arith) | inr later ↦ omega (arith, has_times k ks later) ]

times_has : (k : ℕ) (ks : List ℕ) → 1 ≤ times k ks → contains k ks ≡ true
times_has k [] h = absurd (omega arith)
times_has k (x ∷ ks) h = at (eqb x k) h (times_has k ks)
  where
    at : (b : Bool) → 1 ≤ cond b 1 0 + times k ks → (1 ≤ times k ks → contains k ks ≡ true) → (b || contains k ks) ≡ true
    at true h rest = refl
    at false h rest = rest (omega arith)

pub stable_down : (s : ℕ) (ups : List (Option ℕ)) (n : ℕ) → length (chain (suc s) ups n) ≤ suc s → chain s ups n ≡ chain (suc s) ups n
stable_down zero ups n short =
    let e : length (chain 1 ups n) ≡ suc (length (onwards (chain 0 ups) (up_of ups n))) = ap length (chain-suc 0 ups n) in
    chain-zero ups n ∙ ap (λ xs. n ∷ xs) (sym (top (up_of ups n) (omega arith))) ∙ sym (chain-suc 0 ups n)
  where
    top : (o : Option ℕ) → length (onwards (chain 0 ups) o) ≤ 0 → onwards (chain 0 ups) o ≡ []
    top None h = refl
    top (Some p) h = absurd (let e : length (chain 0 ups p) ≡ 1 = ap length (chain-zero ups p) in omega arith)
stable_down (suc s) ups n short =
    let e : length (chain (suc (suc s)) ups n) ≡ suc (length (onwards (chain (suc s) ups) (up_of ups n))) = ap length (chain-suc (suc s) ups n) in
    chain-suc s ups n ∙ ap (λ xs. n ∷ xs) (stable_on (chain (suc s) ups) (chain s ups) (up_of ups n) (suc s) (stable_down s ups) (omega arith)) ∙ sym (chain-suc (suc s) ups n)

module _ (ups : List (Option ℕ)) (kids : List (List ℕ)) (each : (p m : ℕ) → times m (kids_of kids p) ≡ cond (points_to p (up_of ups m)) 1 0) (shallow : (n : ℕ) → length (lineage ups n) ≤ 200) where
  pub kid_up : (n k : ℕ) → contains k (kids_of kids n) ≡ true → up_of ups k ≡ Some n
  kid_up n k h = pointed (up_of ups k) n (at_least_one (points_to n (up_of ups k)) (times k (kids_of kids n)) (each n k) (has_times k (kids_of kids n) h))

  pub up_kid : (n k : ℕ) → up_of ups k ≡ Some n → contains k (kids_of kids n) ≡ true
  up_kid n k up = times_has k (kids_of kids n) (let e : times k (kids_of kids n) ≡ 1 = each n k ∙ rw (up, eq-eqb n n refl) refl in omega arith)

  in_first : (s n : ℕ) → contains n (walk (suc s) kids n) ≡ true
  in_first s n = ap (contains n) (walk-step s kids n) ∙ or_left (eqb n n) (contains n (flat_map (walk s kids) (kids_of kids n))) (eq-eqb n n refl)

  in_kids : (s r k n : ℕ) → contains k (kids_of kids r) ≡ true → contains n (walk s kids k) ≡ true → contains n (walk (suc s) kids r) ≡ true
  in_kids s r k n at there = ap (contains n) (walk-step s kids r) ∙ or_right (eqb r n) (contains n (flat_map (walk s kids) (kids_of kids r))) (flat_has (walk s kids) (kids_of kids r) k n at there)

  -- a node of a walk is its top or in the walk of a child
  parts : (s r n : ℕ) → contains n (walk (suc s) kids r) ≡ true → (r ≡ n) ⊎ ((k : ℕ) × (contains k (kids_of kids r) ≡ true) × (contains n (walk s kids k) ≡ true))
  parts s r n h = elim (or_split (eqb r n) (contains n (flat_map (walk s kids) (kids_of kids r))) (sym (ap (contains n) (walk-step s kids r)) ∙ h)) [
    | inl here ↦ inl (same_number r n here)
    | inr later ↦ inr (flat_from (walk s kids) (kids_of kids r) n later)
  ]

  down : (s r m k : ℕ) → contains m (walk s kids r) ≡ true → up_of ups k ≡ Some m → contains k (walk (suc s) kids r) ≡ true
  down zero r m k h up = absurd (let e : false ≡ true = sym (ap (contains m) (walk-none kids r)) ∙ h in cc)
  down (suc s) r m k h up = elim (parts s r m h) [
    | inl here ↦ in_kids (suc s) r k k (up_kid r k (up ∙ ap Some (sym here))) (in_first s k)
    | inr below ↦ in_kids (suc s) r below.0 k below.1 (down s below.0 m k below.2 up)
  ]

  reach : (r j n : ℕ) → contains r (chain j ups n) ≡ true → contains n (walk (suc j) kids r) ≡ true
  reach r zero n h = elim (or_split (eqb n r) false (sym (ap (contains r) (chain-zero ups n)) ∙ h)) [
    | inl here ↦ subst (λ m. contains m (walk 1 kids r) ≡ true) (sym (same_number n r here)) (in_first 0 r)
    | inr never ↦ cc
  ]
  reach r (suc j) n h = elim (or_split (eqb n r) (contains r (onwards (chain j ups) (up_of ups n))) (sym (ap (contains r) (chain-suc j ups n)) ∙ h)) [
    | inl here ↦ subst (λ m. contains m (walk (suc (suc j)) kids r) ≡ true) (sym (same_number n r here)) (in_first (suc j) r)
    | inr later ↦ further (reach r j) (up_of ups n) refl later
  ]
    where
      further : ((m : ℕ) → contains r (chain j ups m) ≡ true → contains m (walk (suc j) kids r) ≡ true) → (o : Option ℕ) → up_of ups n ≡ o → contains r (onwards (chain j ups) o) ≡ true → contains n (walk (suc (suc j)) kids r) ≡ true
      further inner None up h = absurd (let e : false ≡ true = h in cc)
      further inner (Some p) up h = down (suc j) r p n (inner p h) up

  from_here : (j n k r : ℕ) → n ≡ k → up_of ups k ≡ Some r → contains r (onwards (chain j ups) (up_of ups n)) ≡ true
  from_here j n k r same up = ap (λ o. contains r (onwards (chain j ups) o)) (ap (up_of ups) same ∙ up) ∙ contains_first j ups r r refl

  onward : (j : ℕ) (o : Option ℕ) (k r : ℕ) → ((p : ℕ) → contains k (chain j ups p) ≡ true → contains r (chain (suc j) ups p) ≡ true) → contains k (onwards (chain j ups) o) ≡ true → contains r (onwards (chain (suc j) ups) o) ≡ true
  onward j None k r inner h = absurd (let e : false ≡ true = h in cc)
  onward j (Some p) k r inner h = inner p h

  lifted : (j n r : ℕ) → contains r (onwards (chain j ups) (up_of ups n)) ≡ true → contains r (chain (suc j) ups n) ≡ true
  lifted j n r h = ap (contains r) (chain-suc j ups n) ∙ or_right (eqb n r) (contains r (onwards (chain j ups) (up_of ups n))) h

  longer : (j n k r : ℕ) → contains k (chain j ups n) ≡ true → up_of ups k ≡ Some r → contains r (chain (suc j) ups n) ≡ true
  longer zero n k r h up = elim (or_split (eqb n k) false (sym (ap (contains k) (chain-zero ups n)) ∙ h)) [ inl here ↦ lifted zero n r (from_here zero n k r (same_number n k here) up) | inr never ↦ cc ]
  longer (suc j) n k r h up = elim (or_split (eqb n k) (contains k (onwards (chain j ups) (up_of ups n))) (sym (ap (contains k) (chain-suc j ups n)) ∙ h)) [
    | inl here ↦ lifted (suc j) n r (from_here (suc j) n k r (same_number n k here) up)
    | inr later ↦ lifted (suc j) n r (onward j (up_of ups n) k r (λ p g. longer j p k r g up) later)
  ]

  rise : (s r n : ℕ) → contains n (walk (suc s) kids r) ≡ true → contains r (chain s ups n) ≡ true
  rise zero r n h = elim (parts zero r n h) [ inl here ↦ contains_first 0 ups n r (sym here) | inr below ↦ absurd (let e : false ≡ true = sym (ap (contains n) (walk-none kids below.0)) ∙ below.2 in cc) ]
  rise (suc s) r n h = elim (parts (suc s) r n h) [ inl here ↦ contains_first (suc s) ups n r (sym here) | inr below ↦ longer s n below.0 r (rise s below.0 n below.2) (kid_up r below.0 below.1) ]

  -- a node is at or below those that its chain of parents meets
  pub subtree_nodes : (r n : ℕ) → contains n (walk 200 kids r) ≡ contains r (lineage ups n)
  subtree_nodes r n =
      let same : chain 199 ups n ≡ lineage ups n = stable_down 199 ups n (shallow n) in
      iff_same (contains n (walk 200 kids r)) (contains r (lineage ups n))
      (λ h. sym (ap (contains r) same) ∙ rise 199 r n h)
      (λ h. reach r 199 n (ap (contains r) same ∙ h))
