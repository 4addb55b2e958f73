-- What a call of the outside does to the count of faults: it is raised by one exactly where the call failed.
use Rattle.std.specs.Prelude.{◌≡◌, ℕ, ◌+◌, ◌<◌, Result, Ok, Err}
use Rattle.wd_http.specs.declared.fault.Failed.{Failed}
use Rattle.wd_http.specs.declared.fault.FileFault.{FileFault}
use Rattle.wd_http.specs.declared.fault.FileFault.TheVariants.{Failed as FileFailed, TooLong, Memory as FileMemory}
use Rattle.wd_http.specs.declared.fault.WriteFault.{WriteFault}
use Rattle.wd_http.specs.declared.fault.WriteFault.TheVariants.{Failed as WriteFailed, Memory}

-- the count has risen
abbrev pub Rose : ℕ → ℕ → Type 0
Rose before now = before < now

-- of a call that can only fail
abbrev pub HasCause : {T : Type 0} → ℕ → ℕ → Result T Failed → Type 0
HasCause before now (Ok _) = now ≡ before
HasCause before now (Err _) = now ≡ before + 1

-- of a write; want of memory isn't counted
abbrev pub HasWriteCause : {T : Type 0} → ℕ → ℕ → Result T WriteFault → Type 0
HasWriteCause before now (Ok _) = now ≡ before
HasWriteCause before now (Err WriteFailed) = now ≡ before + 1
HasWriteCause before now (Err Memory) = now ≡ before

-- of a read of a file; want of memory and a file that is too long aren't counted
abbrev pub HasReadCause : {T : Type 0} → ℕ → ℕ → Result T FileFault → Type 0
HasReadCause before now (Ok _) = now ≡ before
HasReadCause before now (Err FileFailed) = now ≡ before + 1
HasReadCause before now (Err TooLong) = now ≡ before
HasReadCause before now (Err FileMemory) = now ≡ before
