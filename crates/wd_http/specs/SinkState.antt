-- A sink in memory.
use Rattle.std.specs.Prelude.{◌≡◌, ℕ, List, [], true, false, min, length, Result, Ok, Err}
use Rattle.wd_http.specs.Calls.{Calls, first_calls, IsCalled}
use Rattle.wd_http.specs.declared.fault.WriteFault.{WriteFault}
use Rattle.wd_http.specs.declared.fault.WriteFault.TheVariants.{Failed, Memory}

-- the bytes that it took, its calls, and how many bytes a write takes at most
pub record SinkState : Type 0 where
  pub written : List ℕ
  pub calls : Calls
  pub most : ℕ

-- before the first call
abbrev pub sunk_of : List ℕ → ℕ → SinkState
sunk_of fails most = record { written = []; calls = first_calls fails; most = most }

-- A write takes the least of that number and its piece, and fails exactly where its number says so.
abbrev pub TakesLeast : SinkState → SinkState → List ℕ → Result ℕ WriteFault → Type 0
TakesLeast old new bytes (Ok n) = IsCalled old.calls new.calls false × (new.most ≡ old.most) × (n ≡ min old.most (length bytes))
TakesLeast old new bytes (Err Failed) = IsCalled old.calls new.calls true × (new.most ≡ old.most)
TakesLeast old new bytes (Err Memory) = IsCalled old.calls new.calls false × (new.most ≡ old.most)
