-- The calls of a clock, and what it answers.
use Rattle.std.specs.Prelude.{◌≡◌, ℕ, max, List, [], ◌∷◌, drop}

-- From a moment, `now` gives this answer and leaves that moment.
abbrev pub virtual_now : ℕ → ℕ → ℕ → Type 0
virtual_now old answer new = (answer ≡ old) × (new ≡ old)

-- From a moment, a rest until another gives this answer and leaves that moment: the greater of both.
abbrev pub virtual_rest : ℕ → ℕ → ℕ → ℕ → Type 0
virtual_rest old until answer new = (answer ≡ max old until) × (new ≡ max old until)

-- a clock that answers numbers: those to come, and the last one that was answered
pub record Times : Type 0 where
  pub left : List ℕ
  pub last : ℕ

-- before the first call
abbrev pub times_of : List ℕ → Times
times_of numbers = record { left = numbers; last = 0 }

-- the next number, or the last one again
abbrev pub next_time : List ℕ → ℕ → ℕ
next_time [] last = last
next_time (n ∷ left) last = n

-- From such a clock, `now` gives the next number and takes it away.
abbrev pub list_now : Times → ℕ → Times → Type 0
list_now old answer new = (answer ≡ next_time old.left old.last) × (new ≡ record { left = drop 1 old.left; last = answer })

-- A rest gives the greater of that and the moment.
abbrev pub list_rest : Times → ℕ → ℕ → Times → Type 0
list_rest old until answer new =
    (answer ≡ max (next_time old.left old.last) until) × (new ≡ record { left = drop 1 old.left; last = next_time old.left old.last })
