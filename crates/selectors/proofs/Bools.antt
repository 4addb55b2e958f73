-- Two tests that imply each other.
use Rattle.std.proofs.Common.{◌≡◌, Bool, true, false, refl, sym}

pub bools_same : (a b : Bool) → (a ≡ true → b ≡ true) → (b ≡ true → a ≡ true) → a ≡ b
bools_same true b to back = sym (to refl)
bools_same false true to back = back refl
bools_same false false to back = refl
