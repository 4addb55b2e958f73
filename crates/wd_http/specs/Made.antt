-- Calls of the outside, one after another.
use Rattle.std.specs.Prelude.{◌≡◌, ℕ, List, [], ◌∷◌}

-- a call of a line, without its answer
pub data LineCall : Type 0 where
  Opens : ℕ → LineCall
  Asks : LineCall
  Takes : LineCall
  Hands : List ℕ → LineCall
  HangsUp : LineCall

-- These calls were made in order, and lead from one state of the outside to another; what one call does is a
-- relation that the outside gives.
abbrev pub Made : {O C : Type 0} → (O → C → O → Type 0) → O → List C → O → Type 0
Made {O} {C} makes old [] new = new ≡ old
Made {O} {C} makes old (call ∷ calls) new = (mid : O) × makes old call mid × Made makes mid calls new
