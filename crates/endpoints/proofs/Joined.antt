-- Parts that are written one after another, with a slash between them.
use Rattle.std.proofs.Common.{◌≡◌, ℕ, zero, suc, ◌<◌, List, [], ◌∷◌, ◌++◌, map, length, take, get_or, false, cond, ◌==◌, sym, ap, ◌∙◌, append_assoc, arith}
use Rattle.std.proofs.lemmas.Bool.Decides.{nat_tests}
use Rattle.std.specs.List.{join_with_byte}

abbrev pub after_slash : ℕ → List ℕ → List ℕ
after_slash i old = cond (i == 0) old (old ++ 47 ∷ [])

-- the same, from the front: each further part has a slash before it
pub grown : {X : Type 0} (f : X → List ℕ) (xs : List X) (i : ℕ) (x : X) → i < length xs → x ≡ get_or xs i x
    → after_slash i (join_with_byte 47 (map f (take i xs))) ++ f x ≡ join_with_byte 47 (map f (take (suc i) xs))
grown f [] i x l e = absurd (omega arith)
grown f (y ∷ xs) zero x l e = ap f e
grown f (y ∷ []) (suc i) x l e = absurd (omega arith)
grown f (y ∷ z ∷ xs) (suc zero) x l e = append_assoc (f y) (47 ∷ []) (f x) ∙ ap (λ w. f y ++ 47 ∷ f w) e
grown f (y ∷ z ∷ xs) (suc (suc i)) x l e =
    let ih = grown f (z ∷ xs) (suc i) x (omega arith) e in
    let a : (suc (suc i) == 0) ≡ false = grind (arith, nat_tests) in
    let b : (suc i == 0) ≡ false = grind (arith, nat_tests) in
    let j = join_with_byte 47 (map f (take (suc i) (z ∷ xs))) in
    let k : (j ++ 47 ∷ []) ++ f x ≡ join_with_byte 47 (map f (take (suc (suc i)) (z ∷ xs))) = rw b at ih in
    rw a (append_assoc (f y ++ 47 ∷ j) (47 ∷ []) (f x) ∙ append_assoc (f y) (47 ∷ j) (47 ∷ f x) ∙ ap (λ w. f y ++ 47 ∷ w) (sym (append_assoc j (47 ∷ []) (f x)) ∙ k))
