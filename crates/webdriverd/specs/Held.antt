-- What a read answers of a file whose bytes are known.
use Rattle.std.specs.Prelude.{◌≡◌, ◌≤◌, ◌<◌, ℕ, List, Result, Ok, Err, length}
use Rattle.wd_http.specs.declared.fault.FileFault.{FileFault}
use Rattle.wd_http.specs.declared.fault.FileFault.TheVariants.{Failed, TooLong, Memory}

-- the bytes that it holds, within the limit; that it is too long, past the limit
abbrev pub IsReadOf : List ℕ → ℕ → Result (List ℕ) FileFault → Type 0
IsReadOf holds limit (Ok bytes) = (bytes ≡ holds) × (length holds ≤ limit)
IsReadOf holds limit (Err TooLong) = limit < length holds
IsReadOf holds limit (Err Failed) = Unit {0}
IsReadOf holds limit (Err Memory) = Unit {0}
