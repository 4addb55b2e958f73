-- The least of three numbers.
use Rattle.std.specs.Prelude.{ℕ, min}

abbrev pub least : ℕ → ℕ → ℕ → ℕ
least a b c = min (min a b) c
