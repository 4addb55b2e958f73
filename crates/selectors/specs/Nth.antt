-- The places a * n + b for n of 0 or more (CSS Syntax, "An+B").
use Rattle.std.specs.Prelude.{◌≡◌, ℕ, ℤ, pos, negsuc, ◌+ℤ◌, ◌*ℤ◌, ◌-ℤ◌, suc, Bool, false, ◌==◌, ◌%◌, if◌then◌else◌}
use Rattle.std.specs.Prelude.{◌↔◌, IsTrue}

-- so many steps of this size, one or more steps or none, make the way
abbrev pub is_reached : ℕ → ℕ → Bool
is_reached step way = if step == 0 then way == 0 else way % step == 0

-- the way from b to the place, taken in steps of a
abbrev pub goes : ℤ → ℤ → Bool
goes (pos step) (pos way) = is_reached step way
goes (pos step) (negsuc way) = false
goes (negsuc step) (pos way) = way == 0
goes (negsuc step) (negsuc way) = is_reached (suc step) (suc way)

abbrev pub is_nth : ℤ → ℤ → ℕ → Bool
is_nth a b place = goes a (pos place -ℤ b)

-- which are exactly the places a * n + b
abbrev pub NthIsExact : Type 0
NthIsExact = (a b : ℤ) (place : ℕ) → IsTrue (is_nth a b place) ↔ ((n : ℕ) × (pos place ≡ (a *ℤ pos n) +ℤ b))
