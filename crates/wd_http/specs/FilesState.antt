-- Files in memory.
use Rattle.std.specs.Prelude.{◌≡◌, ◌+◌, ◌⊎◌, ℕ, true, false, List, None, Result, Ok, Err}
use Rattle.wd_http.specs.Calls.{Calls, first_calls, last_number, IsCalled}
use Rattle.wd_http.specs.Files.{file_at, Fits}
use Rattle.wd_http.specs.declared.fault.FileFault.{FileFault}
use Rattle.wd_http.specs.declared.fault.FileFault.TheVariants.{Failed, TooLong, Memory}
use Rattle.wd_http.specs.declared.fault.WriteFault.{WriteFault}
use Rattle.wd_http.specs.declared.fault.WriteFault.TheVariants.{Failed as WriteFailed, Memory as WriteMemory}

-- the files, the calls, and how many bytes the last read took of its file
pub record FilesState : Type 0 where
  pub files : List (List ℕ × List ℕ)
  pub calls : Calls
  pub took : ℕ

-- before the first call
abbrev pub filed_of : List (List ℕ × List ℕ) → List ℕ → FilesState
filed_of files fails = record { files = files; calls = first_calls fails; took = 0 }

-- The call was made and would not fail, but there is no file of that name, and the fault was counted.
pub record IsMissed (old new : FilesState) (name : List ℕ) : Type 0 where
  pub absent : file_at name old.files ≡ None
  pub called : IsCalled old.calls (record new.calls { faults = old.calls.faults }) false
  pub counted : new.calls.faults ≡ old.calls.faults + 1

-- no number is left for a call, which is as if there were no memory for it
abbrev pub IsUsedUp : FilesState → FilesState → Type 0
IsUsedUp old new = (old.calls.made ≡ last_number) × (new ≡ old)

-- A read fails exactly where its number says so or there is no file of that name.
abbrev pub ReadsCounted : FilesState → FilesState → List ℕ → ℕ → Result (List ℕ) FileFault → Type 0
ReadsCounted old new name limit (Ok _) = IsCalled old.calls new.calls false
ReadsCounted old new name limit (Err Failed) = IsCalled old.calls new.calls true ⊎ IsMissed old new name
ReadsCounted old new name limit (Err TooLong) = IsCalled old.calls new.calls false
ReadsCounted old new name limit (Err Memory) = IsUsedUp old new ⊎ (IsCalled old.calls new.calls false × Fits name limit old.files)

-- A write fails exactly where its number says so.
abbrev pub WritesCounted : FilesState → FilesState → Result (Unit {0}) WriteFault → Type 0
WritesCounted old new (Ok _) = IsCalled old.calls new.calls false
WritesCounted old new (Err WriteFailed) = IsCalled old.calls new.calls true
WritesCounted old new (Err WriteMemory) = IsUsedUp old new ⊎ (IsCalled old.calls new.calls false × (new.files ≡ old.files))
