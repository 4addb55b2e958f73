-- Advancing: how a thing that has timers goes on until a moment is reached.
use Rattle.std.specs.Prelude.{◌≡◌, ◌≢◌, ◌≤◌, ◌<◌, ◌↔◌, ℕ, max, List}
use Rattle.std.specs.Cmp.{IsTotalOrder}
use Rattle.std.specs.List.{Contains}
use Rattle.std.specs.declared.cmp.Ordering.{Ordering}
use Rattle.std.specs.declared.cmp.Ordering.TheVariants.{Less, Equal, Greater}

-- the timers of a thing: which of them may run, when each is due, and in which order they run
pub record Timers (W T : Type 0) : Type 1 where
  pub may_run : W → T → Type 0
  pub due : T → ℕ
  pub order : T → T → Ordering

-- no timer that may run is due by then
abbrev pub NoneDue : {W T : Type 0} → Timers W T → W → ℕ → Type 0
NoneDue {W} {T} timers w to = (t : T) → timers.may_run w t → to < timers.due t

-- of all timers that may run and are due by then, none runs before this one
pub record IsNext {W T : Type 0} (timers : Timers W T) (w : W) (to : ℕ) (t : T) : Type 0 where
  pub may : timers.may_run w t
  pub due : timers.due t ≤ to
  pub first : (rival : T) → timers.may_run w rival → timers.due rival ≤ to → timers.order t rival ≢ Greater

-- A thing, at a moment that is reached, and as it is once a later moment is reached. Of the timers that may run and
-- are due by then the next one runs, at the later of its due moment and the moment reached, and that is then the
-- moment reached; so one after another, until none is due.
pub data Advances {W T : Type 0} (timers : Timers W T) (runs : W → T → ℕ → W → Type 0) (to : ℕ) : W → ℕ → W → Type 0 where
  Over : (w : W) (reached : ℕ) → NoneDue timers w to → Advances timers runs to w reached w
  Runs : (w mid later : W) (reached : ℕ) (t : T) → IsNext timers w to t → runs w t (max (timers.due t) reached) mid
      → Advances timers runs to mid (max (timers.due t) reached) later → Advances timers runs to w reached later

-- ---- what makes advancing lead to one thing

-- The timers stand in one order, by their due moments first; those that may run are finitely many, and no two of
-- them are equal in it.
pub record AreInTurn {W T : Type 0} (timers : Timers W T) : Type 0 where
  pub total : IsTotalOrder timers.order
  pub by_due : (a b : T) → timers.due a < timers.due b → timers.order a b ≡ Less
  pub apart : (w : W) (a b : T) → timers.may_run w a → timers.may_run w b → timers.order a b ≡ Equal → a ≡ b
  pub all : W → List T
  pub are_all : (w : W) (t : T) → timers.may_run w t ↔ Contains (all w) t

-- A timer that may run leads to one thing at each moment, and each that runs leaves fewer.
pub record RunOut {W T : Type 0} (timers : Timers W T) (runs : W → T → ℕ → W → Type 0) : Type 0 where
  pub left : W → ℕ
  pub fewer : (w mid : W) (t : T) (moment : ℕ) → timers.may_run w t → runs w t moment mid → left mid < left w
  pub there : (w : W) (t : T) (moment : ℕ) → timers.may_run w t → (mid : W) × runs w t moment mid
  pub one : (w mid other : W) (t : T) (moment : ℕ) → runs w t moment mid → runs w t moment other → mid ≡ other
