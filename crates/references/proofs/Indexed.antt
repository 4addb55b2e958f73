-- An entry whose name has none goes last into an index by names.
use Rattle.std.proofs.Common.{◌≡◌, List, [], ◌∷◌, ◌++◌, ◌||◌, Bool, true, false, cond, Some, None, refl, ap, ◌∙◌, if◌then◌else◌}
use Rattle.std.specs.List.{find, list_any}
use Rattle.indexmap.specs.IndexSet.{insert_key}

module _ {X : Type 0} (p q : X → Bool) (same : (x : X) → q x ≡ p x) where
  absent : (xs : List X) → find p xs ≡ None → list_any q xs ≡ false
  absent [] h = refl
  absent (x ∷ xs) h = by (absent xs) (p x) refl h
    where
      by : (find p xs ≡ None → list_any q xs ≡ false) → (b : Bool) → p x ≡ b → cond b (Some x) (find p xs) ≡ None → list_any q (x ∷ xs) ≡ false
      by later true e h = absurd (cc)
      by later false e h = ap (λ b. b || list_any q xs) (same x ∙ e) ∙ later h

pub added_last : {X : Type 0} (eq : X → X → Bool) (p : X → Bool) (xs : List X) (x : X) → ((y : X) → eq x y ≡ p y) → find p xs ≡ None
    → insert_key eq xs x ≡ xs ++ x ∷ []
added_last eq p xs x same h = ap (λ b. if b then xs else xs ++ x ∷ []) (absent p (eq x) same xs h)
