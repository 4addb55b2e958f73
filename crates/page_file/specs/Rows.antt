-- Reading with the first fault: what a list of values gives that are read one by one, each by what those before it gave.
use Rattle.std.specs.Prelude.{◌≡◌, ℕ, Bool, List, [], ◌∷◌, ◌++◌, Option, Some, None, Result, Ok, Err, length, if◌then◌else◌}
use Rattle.page_file.specs.declared.page_fault.PageFault.{PageFault}
use Rattle.page_file.specs.declared.page_fault.PageFault.TheVariants.{Bad, Memory}
use Rattle.page_file.specs.declared.why.Why.{Why}
use Rattle.wd_json.specs.declared.value.Json.{Json}

-- a place counted from 0, and what is wrong there
abbrev pub Fault : Type 0
Fault = ℕ × Why

-- goes on with what was read
abbrev pub if_ok : {A B E : Type 0} → (A → Result B E) → Result A E → Result B E
if_ok more (Ok a) = more a
if_ok more (Err e) = Err e

-- what is there, or this fault
abbrev pub or_fault : {A E : Type 0} → E → Option A → Result A E
or_fault fault None = Err fault
or_fault fault (Some a) = Ok a

-- what passes the test
abbrev pub keep : {A : Type 0} → (A → Bool) → Option A → Option A
keep test None = None
keep test (Some a) = if test a then Some a else None

abbrev pub in_row : {A B : Type 0} → ℕ → (A → Result B Fault) → Result A Why → Result B Fault
in_row n more (Ok a) = more a
in_row n more (Err why) = Err (n, why)

-- what the values give after what earlier ones gave
abbrev pub rows_after : {A : Type 0} → (List A → Json → Result A Why) → List A → List Json → Result (List A) Fault
rows_after next earlier [] = Ok earlier
rows_after next earlier (v ∷ vs) = in_row (length earlier) (λ a. rows_after next (earlier ++ a ∷ []) vs) (next earlier v)

-- what all values give, or the first fault
abbrev pub rows : {A : Type 0} → (List A → Json → Result A Why) → List Json → Result (List A) Fault
rows next values = rows_after next [] values

-- ---- for clauses

-- it is this fault, or there was no memory
abbrev pub IsFaultOf : {A : Type 0} → Result A Fault → PageFault → Type 0
IsFaultOf read (Bad row why) = read ≡ Err (row, why)
IsFaultOf read Memory = Unit {0}

-- the value after these is at fault, or there was no memory
abbrev pub IsNextFault : {A : Type 0} → List A → Result A Why → PageFault → Type 0
IsNextFault earlier next (Bad row why) = (row ≡ length earlier) × (next ≡ Err why)
IsNextFault earlier next Memory = Unit {0}
