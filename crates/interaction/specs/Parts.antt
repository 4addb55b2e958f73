-- A list cut at the elements that pass a test, and texts joined again.
use Rattle.std.specs.Prelude.{ℕ, Bool, true, false, List, [], ◌∷◌, drop, if◌then◌else◌}
use Rattle.std.specs.List.{flat_map}

-- what stands before the first element that passes
abbrev pub up_to : {X : Type 0} → (X → Bool) → List X → List X
up_to test [] = []
up_to test (x ∷ xs) = if test x then [] else x ∷ up_to test xs

-- for each element that passes, what stands after it and before the next
abbrev pub after_each : {X : Type 0} → (X → Bool) → List X → List (List X)
after_each test [] = []
after_each test (x ∷ xs) = if test x then up_to test xs ∷ after_each test xs else after_each test xs

-- what stands before, between and after the elements that pass
abbrev pub parts : {X : Type 0} → (X → Bool) → List X → List (List X)
parts test xs = up_to test xs ∷ after_each test xs

abbrev pub has_some : List ℕ → Bool
has_some [] = false
has_some (c ∷ cs) = true

-- each text with that character before it
abbrev pub led : ℕ → List (List ℕ) → List ℕ
led separator texts = flat_map (λ text. separator ∷ text) texts

-- the texts with that character between each two
abbrev pub joined : ℕ → List (List ℕ) → List ℕ
joined separator texts = drop 1 (led separator texts)
