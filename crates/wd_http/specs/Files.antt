-- Files by their names.
use Rattle.std.specs.Prelude.{◌≡◌, ◌≤◌, ◌<◌, ◌+◌, ℕ, List, Bool, Option, Some, Result, Ok, Err, length, reverse}
use Rattle.std.specs.Str.{bytes_eq, encode_utf8_all}
use Rattle.std.specs.Map.{lookup}
use Rattle.wd_http.specs.declared.fault.FileFault.{FileFault}
use Rattle.wd_http.specs.declared.fault.FileFault.TheVariants.{Failed, TooLong, Memory}
use Rattle.wd_http.specs.declared.fault.WriteFault.{WriteFault}
use Rattle.wd_http.specs.declared.fault.WriteFault.TheVariants.{Failed as WriteFailed, Memory as WriteMemory}

-- whether these characters are the name that has these bytes
abbrev pub is_name : List ℕ → List ℕ → Bool
is_name name characters = bytes_eq (encode_utf8_all characters) name

-- the bytes of the file of that name: of its entries the last one counts
abbrev pub file_at : List ℕ → List (List ℕ × List ℕ) → Option (List ℕ)
file_at name files = lookup (is_name name) (reverse files)

-- there is a file of that name, and it isn't longer than the limit
abbrev pub Fits : List ℕ → ℕ → List (List ℕ × List ℕ) → Type 0
Fits name limit files = (bytes : List ℕ) × (file_at name files ≡ Some bytes) × (length bytes ≤ limit)

-- there is one, and it is longer
abbrev pub IsTooLong : List ℕ → ℕ → List (List ℕ × List ℕ) → Type 0
IsTooLong name limit files = (bytes : List ℕ) × (file_at name files ≡ Some bytes) × (limit < length bytes)

-- What a read answers of these files.
abbrev pub ReadsFile : List (List ℕ × List ℕ) → List ℕ → ℕ → Result (List ℕ) FileFault → Type 0
ReadsFile files name limit (Ok bytes) = (file_at name files ≡ Some bytes) × (length bytes ≤ limit)
ReadsFile files name limit (Err TooLong) = IsTooLong name limit files
ReadsFile files name limit (Err Failed) = Unit {0}
ReadsFile files name limit (Err Memory) = Unit {0}

-- What a read answers, by how many bytes it took of its file: it is too long exactly where that is more
-- than the limit.
abbrev pub Takes : ℕ → ℕ → Result (List ℕ) FileFault → Type 0
Takes took limit (Ok bytes) = (took ≡ length bytes) × (length bytes ≤ limit)
Takes took limit (Err TooLong) = limit < took
Takes took limit (Err Failed) = Unit {0}
Takes took limit (Err Memory) = Unit {0}

-- A read is counted, unless there was no memory for it.
abbrev pub IsOneMore : {T : Type 0} → ℕ → ℕ → Result T FileFault → Type 0
IsOneMore before now (Ok _) = now ≡ before + 1
IsOneMore before now (Err TooLong) = now ≡ before + 1
IsOneMore before now (Err Failed) = now ≡ before + 1
IsOneMore before now (Err Memory) = Unit {0}

-- the file of that name has these bytes, and any other is as it was
pub record Sets (old new : List (List ℕ × List ℕ)) (name bytes : List ℕ) : Type 0 where
  pub here : file_at name new ≡ Some bytes
  pub others : (other : List ℕ) → (other ≡ name → ⊥) → file_at other new ≡ file_at other old

-- What a write makes of the files.
abbrev pub WritesFile : List (List ℕ × List ℕ) → List (List ℕ × List ℕ) → List ℕ → List ℕ → Result (Unit {0}) WriteFault → Type 0
WritesFile old new name bytes (Ok _) = Sets old new name bytes
WritesFile old new name bytes (Err WriteFailed) = new ≡ old
WritesFile old new name bytes (Err WriteMemory) = Unit {0}
