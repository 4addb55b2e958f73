-- What a call that only may fail did to the count of faults, by whether it failed.
use Rattle.std.proofs.Common.{◌≡◌, ◌+◌, ℕ, true, false, Result, Ok, Err}
use Rattle.std.specs.Result.{is_err}
use Rattle.wd_http.specs.Causes.{HasCause}
use Rattle.wd_http.specs.declared.fault.Failed.{Failed}

pub failed : {T : Type 0} (before now : ℕ) (r : Result T Failed) → is_err r ≡ true → HasCause before now r → now ≡ before + 1
failed before now (Ok x) bad cause = absurd (cc)
failed before now (Err e) bad cause = cause

pub went_well : {T : Type 0} (before now : ℕ) (r : Result T Failed) → is_err r ≡ false → HasCause before now r → now ≡ before
went_well before now (Ok x) well cause = cause
went_well before now (Err e) well cause = absurd (cc)
