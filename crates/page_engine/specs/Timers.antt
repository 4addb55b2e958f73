-- The pending timers of a page: a list in the order in which they run.
use Rattle.std.specs.Prelude.{◌≡◌, ◌≢◌, ◌<◌, ℕ, List, [], ◌∷◌, Option, Some, None, map, slice_get, if◌then◌else◌}
use Rattle.std.specs.Ordering.{nat_cmp, ordering_then, is_lt}
use Rattle.std.specs.declared.cmp.Ordering.{Ordering}
use Rattle.std.specs.declared.cmp.Ordering.TheVariants.{Greater}
use Rattle.page_engine.specs.declared.due.Due.{Due}
use Rattle.page_engine.specs.declared.effect.Effect.{Effect}

-- a timer: its due moment and its number, and its effects
abbrev pub Timer : Type 0
Timer = (ℕ × ℕ) × List Effect

-- the order in which timers run: by the due moment, and at one moment by the number
abbrev pub due_order : ℕ × ℕ → ℕ × ℕ → Ordering
due_order a b = ordering_then (nat_cmp a.0 b.0) (nat_cmp a.1 b.1)

-- a timer more: it stands before the first that is to run later, and so after each that has its due moment and
-- its number too
abbrev pub with_timer : Timer → List Timer → List Timer
with_timer timer [] = timer ∷ []
with_timer timer (other ∷ rest) = if is_lt (due_order timer.0 other.0) then timer ∷ other ∷ rest else other ∷ with_timer timer rest

-- of two timers none that stands later is to run before the other
abbrev pub AreInOrder : List Timer → Type 0
AreInOrder pending = (early late : ℕ) (one other : Timer) → early < late
    → slice_get pending early ≡ Some one → slice_get pending late ≡ Some other → due_order one.0 other.0 ≢ Greater

abbrev pub first_due : List Timer → Option Due
first_due [] = None
first_due (timer ∷ timers) = Some (record { moment = timer.0.0; number = timer.0.1 })

-- ---- for private clauses

-- a timer's turn: its due moment and its number, and how many timers the page made before
abbrev pub Turn : Type 0
Turn = (ℕ × ℕ) × ℕ

-- the timers without that count
abbrev pub timers_in : List (Turn × List Effect) → List Timer
timers_in entries = map (λ entry. (entry.0.0, entry.1)) entries
