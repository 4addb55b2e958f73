-- How a text is parted at its first `=`.
use Rattle.std.proofs.Common.{◌≡◌, ◌==◌, ◌||◌, ℕ, List, [], ◌∷◌, ◌++◌, ◌∙◌, Bool, true, false, Option, Some, None, refl, sym, ap, arith}
use Rattle.std.specs.List.{list_any}
use Rattle.std.proofs.lemmas.Bool.Decides.{nat_tests}
use Rattle.command_line.specs.Reading.{parted}

abbrev pub has_equals : List ℕ → Bool
has_equals text = list_any (λ byte. byte == 61) text

-- a name, with its value behind `=` where there is one
abbrev pub joined : List ℕ → Option (List ℕ) → List ℕ
joined name None = name
joined name (Some value) = name ++ 61 ∷ value

pub head_of : (a b : Bool) → (a || b) ≡ false → (a ≡ false) × (b ≡ false)
head_of true b h = absurd (cc)
head_of false b h = (refl, h)

pub parted-at : (xs ys : List ℕ) → has_equals xs ≡ false → parted (xs ++ 61 ∷ ys) ≡ (xs, Some ys)
parted-at [] ys h = refl
parted-at (x ∷ xs) ys h =
    let parts = head_of (x == 61) (has_equals xs) h in
    rw (parts.0, parted-at xs ys parts.1) refl

pub parted-without : (xs : List ℕ) → has_equals xs ≡ false → parted xs ≡ (xs, None)
parted-without [] h = refl
parted-without (x ∷ xs) h =
    let parts = head_of (x == 61) (has_equals xs) h in
    rw (parts.0, parted-without xs parts.1) refl

joined-more : (x : ℕ) (name : List ℕ) (value : Option (List ℕ)) → joined (x ∷ name) value ≡ x ∷ joined name value
joined-more x name None = refl
joined-more x name (Some value) = refl

pub parted-joined : (xs : List ℕ) → xs ≡ joined (parted xs).0 (parted xs).1
parted-joined [] = refl
parted-joined (x ∷ xs) = go (parted-joined xs) (x == 61) refl
  where
    go : xs ≡ joined (parted xs).0 (parted xs).1 → (b : Bool) → (x == 61) ≡ b → (x ∷ xs) ≡ joined (parted (x ∷ xs)).0 (parted (x ∷ xs)).1
    go further true e = let same : x ≡ 61 = grind (arith, nat_tests) in rw e (ap (λ n. n ∷ xs) same)
    go further false e = rw e (ap (λ rest. x ∷ rest) further ∙ sym (joined-more x (parted xs).0 (parted xs).1))
