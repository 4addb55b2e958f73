-- How words are read, one after another.
use Rattle.std.specs.Prelude.{◌||◌, ◌==◌, ℕ, List, [], ◌∷◌, ◌++◌, not, Option, Some, None, length, take, drop, is_some, if◌then◌else◌}
use Rattle.std.specs.Option.{option_and_then, option_map}
use Rattle.std.specs.Str.{bytes_eq}
use Rattle.command_line.specs.Given.{Given, nothing_given, value_of}
use Rattle.command_line.specs.Words.{dashes, is_empty, is_option, is_value}

-- what a word looks like: `--`, `--name` or `--name=value`, or any other
pub data Look : Type 0 where
  Dashes : Look
  Named : List ℕ → Option (List ℕ) → Look
  Plain : Look

-- what stands behind these letters in one word
unfoldable pub behind : List ℕ → List ℕ → Option (List ℕ)
behind letters word = if bytes_eq (take (length letters) word) letters then Some (drop (length letters) word) else None

-- what stands before the first `=`, and what stands behind it
abbrev pub parted : List ℕ → List ℕ × Option (List ℕ)
parted [] = ([], None)
parted (byte ∷ rest) = if byte == 61 then ([], Some rest) else (byte ∷ (parted rest).0, (parted rest).1)

abbrev pub look_behind : Option (List ℕ) → Look
look_behind None = Plain
look_behind (Some []) = Dashes
look_behind (Some (first ∷ rest)) = Named (parted (first ∷ rest)).0 (parted (first ∷ rest)).1

unfoldable pub look : List ℕ → Look
look word = look_behind (behind dashes word)

-- what the next word is: any, the value of an option, or a positional whatever it looks like
pub data Next : Type 0 where
  Any : Next
  Value : List ℕ → Next
  Positional : Next

-- between two words
pub record State : Type 0 where
  pub given : Given
  pub next : Next

abbrev pub state : Next → Given → State
state next g = record { given = g; next = next }

-- an option has one more value, where it had none
abbrev pub put : List ℕ → List ℕ → Given → Option Given
put name value g = if is_some (value_of name g) then None else Some (record g { values = g.values ++ (name, value) ∷ [] })

-- a positional is given, where none was
abbrev pub put_positional : List ℕ → Given → Option Given
put_positional value g = if is_some g.positional then None else Some (record g { positional = Some value })

abbrev pub step_named : List (List ℕ) → List ℕ → Option (List ℕ) → Given → Option State
step_named options name None g = if is_option options name then Some (state (Value name) g) else None
step_named options name (Some value) g = if is_empty value || not (is_option options name) then None else option_map (state Any) (put name value g)

abbrev pub step_any : List (List ℕ) → Look → List ℕ → Given → Option State
step_any options Dashes word g = Some (state Positional g)
step_any options (Named name value) word g = step_named options name value g
step_any options Plain word g = if is_value word then option_map (state Any) (put_positional word g) else None

-- one more word
abbrev pub step_by : List (List ℕ) → Next → List ℕ → Given → Option State
step_by options Any word g = step_any options (look word) word g
step_by options (Value name) word g = if is_value word then option_map (state Any) (put name word g) else None
step_by options Positional word g = if is_empty word then None else option_map (state Positional) (put_positional word g)

abbrev pub step : List (List ℕ) → List ℕ → State → Option State
step options word s = step_by options s.next word s.given

-- what was given, where no option waits for its value
abbrev pub ended : Next → Given → Option Given
ended Any g = Some g
ended (Value name) g = None
ended Positional g = Some g

abbrev pub read_from : List (List ℕ) → List (List ℕ) → State → Option Given
read_from options [] s = ended s.next s.given
read_from options (word ∷ words) s = option_and_then (λ after. read_from options words after) (step options word s)

-- what words give; None where they spell nothing
unfoldable pub given_by : List (List ℕ) → List (List ℕ) → Option Given
given_by options words = read_from options words (state Any nothing_given)
