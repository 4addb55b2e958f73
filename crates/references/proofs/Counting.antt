-- How many numbers a list has, each counted once, where its head is counted first.
use Rattle.std.proofs.Common.{◌≡◌, ℕ, suc, List, [], ◌∷◌, length, Bool, true, false, cond, not, nat_eq, ◌&&◌, ◌||◌, refl, sym, ap, ◌∙◌}
use Rattle.std.specs.List.{filter}
use Rattle.std.specs.Set.{distinct_count, is_member, unique_keys}
use Rattle.std.proofs.lemmas.Bool.{eqb-true, eq-eqb}

-- what is left without n
abbrev pub is_other : ℕ → ℕ → Bool
is_other n m = not (nat_eq n m)

member_left : (n x : ℕ) (xs : List ℕ) → nat_eq n x ≡ false → is_member nat_eq (filter (is_other n) xs) x ≡ is_member nat_eq xs x
member_left n x [] h = refl
member_left n x (y ∷ ys) h = by (member_left n x ys h) (nat_eq n y) refl (nat_eq x y) refl
  where
    by : is_member nat_eq (filter (is_other n) ys) x ≡ is_member nat_eq ys x → (b : Bool) → nat_eq n y ≡ b → (c : Bool) → nat_eq x y ≡ c → is_member nat_eq (filter (is_other n) (y ∷ ys)) x ≡ is_member nat_eq (y ∷ ys) x
    by more true e true f = let p : n ≡ y = eqb-true n y e in let q : x ≡ y = eqb-true x y f in let r : nat_eq n x ≡ true = eq-eqb n x (p ∙ sym q) in absurd (cc)
    by more true e false f = rw (e, f) more
    by more false e c f = rw e (ap (λ b. nat_eq x y || b) more)

pub count_one : (n : ℕ) (xs : List ℕ) → distinct_count nat_eq (n ∷ xs) ≡ suc (distinct_count nat_eq (filter (is_other n) xs))
count_one n [] = refl
count_one n (x ∷ xs) = go (count_one n xs) (nat_eq n x) refl
  where
    both : (b c : Bool) (u g : List ℕ) → length (cond c u (n ∷ u)) ≡ suc (length g) → length (cond c (cond b u (x ∷ u)) (n ∷ cond b u (x ∷ u))) ≡ suc (length (cond b g (x ∷ g)))
    both true c u g h = h
    both false true u g h = ap suc h
    both false false u g h = ap suc h

    go : distinct_count nat_eq (n ∷ xs) ≡ suc (distinct_count nat_eq (filter (is_other n) xs)) → (b : Bool) → nat_eq n x ≡ b → distinct_count nat_eq (n ∷ x ∷ xs) ≡ suc (distinct_count nat_eq (filter (is_other n) (x ∷ xs)))
    go ih true e = let s : n ≡ x = eqb-true n x e in rw (e, ← s) ih
    go ih false e =
        rw (e, member_left n x xs e)
        (both (is_member nat_eq xs x) (is_member nat_eq xs n) (unique_keys nat_eq xs) (unique_keys nat_eq (filter (is_other n) xs)) ih)

pub filter_both : (p q : ℕ → Bool) (xs : List ℕ) → filter (λ x. p x && q x) xs ≡ filter q (filter p xs)
filter_both p q [] = refl
filter_both p q (x ∷ xs) = by (filter_both p q xs) (p x) refl (q x) refl
  where
    by : filter (λ y. p y && q y) xs ≡ filter q (filter p xs) → (b : Bool) → p x ≡ b → (c : Bool) → q x ≡ c → filter (λ y. p y && q y) (x ∷ xs) ≡ filter q (filter p (x ∷ xs))
    by ih true e true f = rw (e, f) (ap (λ ys. x ∷ ys) ih)
    by ih true e false f = rw (e, f) ih
    by ih false e c f = rw e ih
