-- A list whose entries are read one by one.
use Rattle.std.proofs.Common.{◌≡◌, ℕ, ◌+◌, ◌<◌, ◌≤◌, List, [], ◌∷◌, ◌++◌, Option, Some, None, length, get_or, drop, refl, ap, sym, ◌∙◌, append_assoc}
use Rattle.std.proofs.lemmas.List.{append-nil, at_drop_more, at_drop_all}
use Rattle.std.specs.Option.{option_map, option_and_then}
use Rattle.page_file.proofs.Tests.{some_is}
use Rattle.page_file.specs.Members.{each_of}

-- what was read, and what is still to be read
abbrev pub onto_all : {B : Type 0} → List B → Option (List B) → Option (List B)
onto_all before rest = option_map (λ ys. before ++ ys) rest

module _ {A B : Type 0} (f : A → Option B) where
  put_on : (before : List B) (y : B) (rest : Option (List B)) → onto_all before (option_map (λ ys. y ∷ ys) rest) ≡ onto_all (before ++ y ∷ []) rest
  put_on before y None = refl
  put_on before y (Some ys) = ap Some (sym (append_assoc before (y ∷ []) ys))

  abbrev one_more : List B → Option (List B) → Option B → Option (List B)
  one_more before rest first = onto_all before (option_and_then (λ y. option_map (λ ys. y ∷ ys) rest) first)

  pub all_next : (xs : List A) (i : ℕ) (d : A) (y : B) (before : List B)
      → i < length xs → f (get_or xs i d) ≡ Some y → onto_all before (each_of f (drop i xs)) ≡ onto_all (before ++ y ∷ []) (each_of f (drop (i + 1) xs))
  all_next xs i d y before h g =
      at_drop_more (λ ys. onto_all before (each_of f ys)) xs i d h
      ∙ ap (one_more before (each_of f (drop (i + 1) xs))) g
      ∙ put_on before y (each_of f (drop (i + 1) xs))

  pub all_none : (xs : List A) (i : ℕ) (d : A) (before : List B)
      → i < length xs → f (get_or xs i d) ≡ None → onto_all before (each_of f (drop i xs)) ≡ None
  all_none xs i d before h g =
      at_drop_more (λ ys. onto_all before (each_of f ys)) xs i d h
      ∙ ap (one_more before (each_of f (drop (i + 1) xs))) g

  pub all_end : (xs : List A) (i : ℕ) (before : List B) → length xs ≤ i → onto_all before (each_of f (drop i xs)) ≡ Some before
  all_end xs i before h = at_drop_all (λ ys. onto_all before (each_of f ys)) xs i h ∙ ap Some (append-nil before)

  abbrev cons : Option B → Option (List B) → Option (List B)
  cons first rest = option_and_then (λ y. option_map (λ ys. y ∷ ys) rest) first

  -- the first entry and the rest of what was read
  pub record Parts (x : A) (xs : List A) (all : List B) : Type 0 where
    pub first : B
    pub rest : List B
    pub is_first : f x ≡ Some first
    pub is_rest : each_of f xs ≡ Some rest
    pub is_all : all ≡ first ∷ rest

  pub parts : (x : A) (xs : List A) (all : List B) → each_of f (x ∷ xs) ≡ Some all → Parts x xs all
  parts x xs all e = at (f x) (each_of f xs) refl refl e
    where
      at : (o : Option B) (r : Option (List B)) → f x ≡ o → each_of f xs ≡ r → cons o r ≡ Some all → Parts x xs all
      at None r g h e = cc
      at (Some y) None g h e = cc
      at (Some y) (Some ys) g h e = record { first = y; rest = ys; is_first = g; is_rest = h; is_all = sym (some_is (y ∷ ys) all e) }

  pub each_put : (x : A) (xs : List A) (y : B) (ys : List B) → f x ≡ Some y → each_of f xs ≡ Some ys → each_of f (x ∷ xs) ≡ Some (y ∷ ys)
  each_put x xs y ys g h = ap (λ (o : Option B). cons o (each_of f xs)) g ∙ ap (cons (Some y)) h

  pub each_push : (xs : List A) (x : A) (ys : List B) (y : B) → each_of f xs ≡ Some ys → f x ≡ Some y → each_of f (xs ++ x ∷ []) ≡ Some (ys ++ y ∷ [])
  each_push [] x ys y e g = each_put x [] y [] g refl ∙ ap (λ (zs : List B). Some (zs ++ y ∷ [])) (some_is [] ys e)
  each_push (w ∷ xs) x ys y e g =
      let p = parts w xs ys e in
      each_put w (xs ++ x ∷ []) p.first (p.rest ++ y ∷ []) p.is_first (each_push xs x p.rest y p.is_rest g)
      ∙ ap (λ (zs : List B). Some (zs ++ y ∷ [])) (sym p.is_all)
