-- The outside of a remote end, a clock and an evaluator, and the calls that answering a request makes of it.
use Rattle.std.specs.Prelude.{◌≡◌, ℕ}
use Rattle.remote_end.specs.declared.taken.Taken.{Taken}
use Rattle.remote_end.specs.declared.taken.Taken.TheVariants.{Reading}

-- A call with its answer: a reading of the clock, or a rest that asked for a moment and what the clock then read.
pub data Call : Type 0 where
  Now : ℕ → Call
  Rest : ℕ → ℕ → Call

-- what a call does of a clock with these two relations; the evaluator isn't asked yet
abbrev pub outside : {C E : Type 0} → (C → ℕ → C → Type 0) → (C → ℕ → ℕ → C → Type 0) → C × E → Call → C × E → Type 0
outside {C} {E} now rest old (Now reading) new = now old.0 reading new.0 × (new.1 ≡ old.1)
outside {C} {E} now rest old (Rest asked reading) new = rest old.0 asked reading new.0 × (new.1 ≡ old.1)

-- what is kept of a call: the answer
abbrev pub taken_of : Call → Taken
taken_of (Now reading) = Reading reading
taken_of (Rest asked reading) = Reading reading
