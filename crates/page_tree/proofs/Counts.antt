-- How often a number stands in a list, under each change of the list.
use Rattle.std.proofs.Common.{◌≡◌, ℕ, zero, suc, ◌+◌, Bool, true, false, cond, List, [], ◌∷◌, ◌++◌, map, take, drop, eqb, refl, sym, ap, ◌∙◌, arith}
use Rattle.std.specs.Prelude.{not}
use Rattle.std.proofs.lemmas.List.{take-append-drop}
use Rattle.page_tree.specs.Places.{kids_of, times, without, put_among}

times-without_at : (m x y : ℕ) (ys : List ℕ) (b : Bool) → eqb y m ≡ b → times x (without m ys) ≡ cond (eqb x m) 0 (times x ys)
    → times x (cond (not b) (y ∷ without m ys) (without m ys)) ≡ cond (eqb x m) 0 (cond (eqb y x) 1 0 + times x ys)
times-without_at m x y ys true h rest = grind arith
times-without_at m x y ys false h rest = grind arith

pub times-without : (m x : ℕ) (xs : List ℕ) → times x (without m xs) ≡ cond (eqb x m) 0 (times x xs)
times-without m x [] = grind arith
times-without m x (y ∷ ys) = times-without_at m x y ys (eqb y m) refl (times-without m x ys)

pub times-append : (x : ℕ) (xs ys : List ℕ) → times x (xs ++ ys) ≡ times x xs + times x ys
times-append x [] ys = omega arith
times-append x (y ∷ xs) ys = omega (arith, times-append x xs ys)

pub times-put : (place m x : ℕ) (xs : List ℕ) → times x (put_among place m xs) ≡ cond (eqb m x) 1 0 + times x xs
times-put place m x xs =
    let whole : times x (take place xs) + times x (drop place xs) ≡ times x xs = sym (times-append x (take place xs) (drop place xs)) ∙ ap (times x) (take-append-drop place xs) in
    times-append x (take place xs) (m ∷ drop place xs) ∙ omega arith

without_absent_at : (m y : ℕ) (ys : List ℕ) (b : Bool) → cond b 1 0 + times m ys ≡ 0 → (times m ys ≡ 0 → without m ys ≡ ys) → cond (not b) (y ∷ without m ys) (without m ys) ≡ y ∷ ys
without_absent_at m y ys true h rest = absurd (omega arith)
without_absent_at m y ys false h rest = ap (λ zs. y ∷ zs) (rest (omega arith))

pub without_absent : (m : ℕ) (xs : List ℕ) → times m xs ≡ 0 → without m xs ≡ xs
without_absent m [] h = refl
without_absent m (y ∷ ys) h = without_absent_at m y ys (eqb y m) h (without_absent m ys)

pub kids_without : (m : ℕ) (kids : List (List ℕ)) (p : ℕ) → kids_of (map (without m) kids) p ≡ without m (kids_of kids p)
kids_without m [] p = refl
kids_without m (k ∷ ks) zero = refl
kids_without m (k ∷ ks) (suc p) = kids_without m ks p
