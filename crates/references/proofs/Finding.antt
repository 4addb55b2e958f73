-- A search in a list finds an element that passes, and what it finds stays the first.
use Rattle.std.proofs.Common.{◌≡◌, zero, suc, List, [], ◌∷◌, ◌++◌, Bool, true, false, cond, Option, Some, None, refl, sym, ap, ◌∙◌, arith}
use Rattle.std.specs.List.{find, Contains}
use Rattle.std.specs.Option.{option_or}
use Rattle.std.proofs.lemmas.List.Elements.{All-contains}
use Rattle.std.proofs.lemmas.List.Folds.{find-append}
use Rattle.references.proofs.Issuing.{none_passes}

Contains-later : {X : Type 0} (x y : X) (xs : List X) → Contains xs y → Contains (x ∷ xs) y
Contains-later x y xs c = (suc c.0, omega arith, c.2)

pub find_some : {X : Type 0} (p : X → Bool) (xs : List X) (x : X) → find p xs ≡ Some x → (p x ≡ true) × Contains xs x
find_some p [] x h = absurd (cc)
find_some p (y ∷ ys) x h = by (find_some p ys x) (p y) refl h
  where
    by : (find p ys ≡ Some x → (p x ≡ true) × Contains ys x) → (b : Bool) → p y ≡ b → cond b (Some y) (find p ys) ≡ Some x → (p x ≡ true) × Contains (y ∷ ys) x
    by more true e h = let s : y ≡ x = cc in (ap p (sym s) ∙ e, (zero, omega arith, s))
    by more false e h = let m = more h in (m.0, Contains-later y x ys m.1)

-- an element that passes is found, or one before it
pub find_any : {X : Type 0} (p : X → Bool) (xs : List X) (x : X) → Contains xs x → p x ≡ true → (y : X) × (find p xs ≡ Some y)
find_any p xs x c h = by (find p xs) refl
  where
    by : (o : Option _) → find p xs ≡ o → (y : _) × (find p xs ≡ Some y)
    by (Some y) e = (y, e)
    by None e = let f : p x ≡ false = All-contains (λ z. p z ≡ false) xs x (none_passes p xs e) c in absurd (cc)

pub found_longer : {X : Type 0} (p : X → Bool) (xs ys : List X) (x : X) → find p xs ≡ Some x → find p (xs ++ ys) ≡ Some x
found_longer p xs ys x h = find-append p xs ys ∙ ap (λ o. option_or o (find p ys)) h

pub found_last : {X : Type 0} (p : X → Bool) (xs : List X) (x : X) → find p xs ≡ None → p x ≡ true → find p (xs ++ x ∷ []) ≡ Some x
found_last p xs x h t = find-append p xs (x ∷ []) ∙ ap (λ o. option_or o (find p (x ∷ []))) h ∙ ap (λ b. cond b (Some x) None) t
