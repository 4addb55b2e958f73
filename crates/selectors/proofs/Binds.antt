-- What follows from an answer of a reading: of a bind, of a choice, of a character that is asked for.
use Rattle.std.proofs.Common.{◌≡◌, ℕ, Bool, true, false, cond, ◌⊎◌, inl, inr, Option, Some, None, List, [], ◌∷◌, refl, sym, ap, ◌∙◌}
use Rattle.std.specs.Prelude.{◌==◌}
use Rattle.std.proofs.lemmas.Bool.{eqb-true, eq-eqb, ne_eqb, true≢false}
use Rattle.std.proofs.lemmas.Option.{none-some, same_Some, some_pair_parts}
use Rattle.selectors.specs.ReadingSimples.{◌>>=◌, behind_character}

pub bind_ok : {A B : Type 0} (o : Option A) (f : A → Option B) (y : B) → (o >>= f) ≡ Some y → (x : A) × (o ≡ Some x) × (f x ≡ Some y)
bind_ok None f y h = absurd (none-some y h)
bind_ok (Some x) f y h = (x, refl, h)

pub chosen : {A : Type 0} (b : Bool) (x y z : A) → cond b x y ≡ z → ((b ≡ true) × (x ≡ z)) ⊎ ((b ≡ false) × (y ≡ z))
chosen true x y z h = inl (refl, h)
chosen false x y z h = inr (refl, h)

-- a test that tells two numbers apart
pub differ : (test : ℕ → Bool) (c d : ℕ) → test c ≡ true → test d ≡ false → (c == d) ≡ false
differ test c d h k = ne_eqb c d (λ e. true≢false (sym h ∙ ap test e ∙ k))

pub behind_is : (c : ℕ) (text rest : List ℕ) → behind_character c text ≡ Some rest → text ≡ c ∷ rest
behind_is c [] rest h = absurd (none-some rest h)
behind_is c (d ∷ text) rest h = go (chosen (d == c) _ _ _ h)
  where
    go : ((d == c) ≡ true) × (◌≡◌ {A = Option (List ℕ)} (Some text) (Some rest)) ⊎ ((d == c) ≡ false) × (None ≡ Some rest) → (d ∷ text) ≡ (c ∷ rest)
    go (inl p) = let e = eqb-true d c p.0 in let f = same_Some text rest p.1 in cc
    go (inr p) = absurd (none-some rest p.1)

pub behind_finds : (c : ℕ) (rest : List ℕ) → behind_character c (c ∷ rest) ≡ Some rest
behind_finds c rest = ap (λ b. cond b (Some rest) None) (eq-eqb c c refl)

-- a choice that answers: by its test, or by the others
pub either : {A : Type 0} (P : Type 0) (b : Bool) (this others : Option A) (y : A) → (b ≡ true → this ≡ Some y → P) → (b ≡ false → others ≡ Some y → P) → cond b this others ≡ Some y → P
either P true this others y f g h = f refl h
either P false this others y f g h = g refl h

-- what an answer was made of
pub made_of : {A B : Type 0} (o : Option (A × List ℕ)) (make : A → B) (y : B) (rest : List ℕ) → ◌≡◌ {A = Option (B × List ℕ)} (o >>= λ x. Some (make x.0, x.1)) (Some (y, rest)) → (x : A) × (o ≡ Some (x, rest)) × (y ≡ make x)
made_of None make y rest h = absurd (none-some (y, rest) h)
made_of (Some x) make y rest h = let p = some_pair_parts (make x.0) y x.1 rest h in (x.0, ap (λ r. Some (x.0, r)) p.1, sym p.0)

pub cond_true : {A : Type 0} (b : Bool) (x y : A) → b ≡ true → cond b x y ≡ x
cond_true b x y e = ap (λ c. cond c x y) e

pub cond_false : {A : Type 0} (b : Bool) (x y : A) → b ≡ false → cond b x y ≡ y
cond_false b x y e = ap (λ c. cond c x y) e
