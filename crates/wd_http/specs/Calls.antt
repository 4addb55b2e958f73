-- Calls that are numbered from 1, some of which fail.
use Rattle.std.specs.Prelude.{◌≡◌, ◌↔◌, ◌<◌, ◌+◌, ◌-◌, ◌^◌, ℕ, Bool, true, false, List, min, IsTrue, Contains}

-- the numbers of those that fail, how many were made, and how many faults there were
pub record Calls : Type 0 where
  pub fails : List ℕ
  pub made : ℕ
  pub faults : ℕ

-- before the first call
abbrev pub first_calls : List ℕ → Calls
first_calls fails = record { fails = fails; made = 0; faults = 0 }

-- the number of the last call that has one
abbrev pub last_number : ℕ
last_number = 2 ^ 64 - 1

-- The call was made. It fails exactly where it has a number, and that is among those that fail; then its
-- fault was counted.
pub record IsCalled (old new : Calls) (fails : Bool) : Type 0 where
  pub fails_are : new.fails ≡ old.fails
  pub made : new.made ≡ min (old.made + 1) last_number
  pub rose : fails ≡ true → new.faults ≡ old.faults + 1
  pub kept : fails ≡ false → new.faults ≡ old.faults
  pub exactly : IsTrue fails ↔ ((old.made < last_number) × Contains old.fails new.made)
