-- What follows of what is there, and of two tests that pass.
use Rattle.std.proofs.Common.{◌≡◌, Bool, true, ◌&&◌, Some}
use Rattle.std.proofs.lemmas.Bool.{and_parts}

pub some_is : {X : Type 0} (x y : X) → Some x ≡ Some y → x ≡ y
some_is x y e = cc

pub first_of : (a b : Bool) → (a && b) ≡ true → a ≡ true
first_of a b h = (and_parts a b h).0

pub second_of : (a b : Bool) → (a && b) ≡ true → b ≡ true
second_of a b h = (and_parts a b h).1
