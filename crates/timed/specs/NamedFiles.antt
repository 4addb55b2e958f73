-- Files in memory of which one call may fail.
use Rattle.std.specs.Prelude.{ℕ, List, [], ◌∷◌, Option, Some, None}

-- the number of the call that fails, where one does
abbrev pub number_in : Option ℕ → List ℕ
number_in None = []
number_in (Some number) = number ∷ []
