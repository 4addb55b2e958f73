-- A line in memory.
use Rattle.std.specs.Prelude.{◌≡◌, ◌+◌, ℕ, true, false, List, [], min, length, Result, Ok, Err}
use Rattle.wd_http.specs.Calls.{Calls, first_calls, IsCalled}
use Rattle.wd_http.specs.Least.{least}
use Rattle.wd_http.specs.Talk.{Talk, fresh}
use Rattle.wd_http.specs.declared.fault.Failed.{Failed}
use Rattle.wd_http.specs.declared.fault.WriteFault.{WriteFault}
use Rattle.wd_http.specs.declared.fault.WriteFault.TheVariants.{Failed as WriteFailed, Memory as WriteMemory}

-- what comes and goes on it, its calls, how many bytes move at most, and how often `open` or `next` failed
pub record LineState : Type 0 where
  pub talk : Talk
  pub calls : Calls
  pub most : ℕ
  pub refusals : ℕ

-- before the first call
abbrev pub told_of : List (List ℕ) → List ℕ → ℕ → LineState
told_of connections fails most = record {
  talk = record { coming = connections; is_open = false; here = fresh []; past = [] };
  calls = first_calls fails;
  most = most;
  refusals = 0;
}

-- `open` or `next` fails exactly where the number of the call says so.
abbrev pub Refuses : {T : Type 0} → LineState → LineState → Result T Failed → Type 0
Refuses old new (Ok _) = IsCalled old.calls new.calls false × (new.most ≡ old.most) × (new.refusals ≡ old.refusals)
Refuses old new (Err _) = IsCalled old.calls new.calls true × (new.most ≡ old.most) × (new.refusals ≡ old.refusals + 1)

-- A read fails exactly where its number says so; else it moves the least of three numbers: how many bytes
-- move at most, the length of the buffer and what is left.
abbrev pub ReadsLeast : LineState → LineState → List ℕ → Result ℕ Failed → Type 0
ReadsLeast old new into (Ok n) = IsCalled old.calls new.calls false × (new.most ≡ old.most) × (n ≡ least old.most (length into) (length old.talk.here.left))
ReadsLeast old new into (Err _) = IsCalled old.calls new.calls true × (new.most ≡ old.most)

-- A write fails exactly where its number says so; else it takes the least of two numbers, or there was no
-- memory.
abbrev pub WritesLeast : LineState → LineState → List ℕ → Result ℕ WriteFault → Type 0
WritesLeast old new bytes (Ok n) = IsCalled old.calls new.calls false × (new.most ≡ old.most) × (n ≡ min old.most (length bytes))
WritesLeast old new bytes (Err WriteFailed) = IsCalled old.calls new.calls true × (new.most ≡ old.most)
WritesLeast old new bytes (Err WriteMemory) = IsCalled old.calls new.calls false × (new.most ≡ old.most)
