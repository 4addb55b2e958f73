-- A test, and a search, in a list that another one is made of.
use Rattle.std.proofs.Common.{◌≡◌, ◌||◌, List, [], ◌∷◌, Bool, true, false, map, option_map, refl, ap}
use Rattle.std.specs.List.{list_any, find}

pub list_any-map : {A B : Type 0} → (f : A → B) (p : B → Bool) (xs : List A) → list_any p (map f xs) ≡ list_any (λ x. p (f x)) xs
list_any-map f p [] = refl
list_any-map f p (x ∷ xs) = ap (λ rest. p (f x) || rest) (list_any-map f p xs)

by_test : {A B : Type 0} → (f : A → B) (p : B → Bool) (x : A) (xs : List A) → find p (map f xs) ≡ option_map f (find (λ y. p (f y)) xs)
    → find p (map f (x ∷ xs)) ≡ option_map f (find (λ y. p (f y)) (x ∷ xs))
by_test f p x xs e = go (p (f x)) refl
  where
    go : (t : Bool) → p (f x) ≡ t → find p (map f (x ∷ xs)) ≡ option_map f (find (λ y. p (f y)) (x ∷ xs))
    go true h = rw h refl
    go false h = rw h e

pub find-map : {A B : Type 0} → (f : A → B) (p : B → Bool) (xs : List A) → find p (map f xs) ≡ option_map f (find (λ y. p (f y)) xs)
find-map f p [] = refl
find-map f p (x ∷ xs) = by_test f p x xs (find-map f p xs)

pub ruleset made_lists = (list_any-map, find-map)
