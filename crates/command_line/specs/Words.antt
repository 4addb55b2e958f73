-- The words of a command line, behind the command: which values of options and which positional they spell.
use Rattle.std.specs.Prelude.{◌≡◌, ◌≢◌, ◌&&◌, ◌==◌, ℕ, List, [], ◌∷◌, ◌++◌, Bool, true, false, not, length, Option, Some, None}
use Rattle.std.specs.List.{flat_map, list_any}
use Rattle.std.specs.Str.{bytes_eq}
use Rattle.command_line.specs.Given.{Given}

-- One thing that words say: the value of an option in a word of its own, the same joined to the option by `=`, or a positional.
pub data Piece : Type 0 where
  Apart : List ℕ → List ℕ → Piece
  Joined : List ℕ → List ℕ → Piece
  Alone : List ℕ → Piece

-- `--`
abbrev pub dashes : List ℕ
dashes = 45 ∷ 45 ∷ []

-- its words: `--name value`, `--name=value` or `value`
abbrev pub words_of : Piece → List (List ℕ)
words_of (Apart name value) = (dashes ++ name) ∷ value ∷ []
words_of (Joined name value) = (dashes ++ (name ++ 61 ∷ value)) ∷ []
words_of (Alone value) = value ∷ []

abbrev pub is_empty : List ℕ → Bool
is_empty text = length text == 0

-- A value in a word of its own isn't empty, and begins with no `-`, unless it is `-` alone.
abbrev pub is_value : List ℕ → Bool
is_value [] = false
is_value (first ∷ []) = true
is_value (first ∷ second ∷ rest) = not (first == 45)

-- a name isn't empty and has no `=`
abbrev pub is_name : List ℕ → Bool
is_name name = not (is_empty name) && not (list_any (λ byte. byte == 61) name)

-- the name is one of the options
abbrev pub is_option : List (List ℕ) → List ℕ → Bool
is_option options name = is_name name && list_any (λ option. bytes_eq option name) options

-- the piece is of the rule
abbrev pub IsOfRule : List (List ℕ) → Piece → Type 0
IsOfRule options (Apart name value) = (is_option options name ≡ true) × (is_value value ≡ true)
IsOfRule options (Joined name value) = (is_option options name ≡ true) × (value ≢ [])
IsOfRule options (Alone value) = is_value value ≡ true

abbrev pub AreOfRule : List (List ℕ) → List Piece → Type 0
AreOfRule options [] = Unit {0}
AreOfRule options (piece ∷ pieces) = IsOfRule options piece × AreOfRule options pieces

-- no word is empty
abbrev pub ArentEmpty : List (List ℕ) → Type 0
ArentEmpty [] = Unit {0}
ArentEmpty (word ∷ words) = (word ≢ []) × ArentEmpty words

-- the values of options in a piece, and its positionals
abbrev pub values_in : Piece → List (List ℕ × List ℕ)
values_in (Apart name value) = (name, value) ∷ []
values_in (Joined name value) = (name, value) ∷ []
values_in (Alone value) = []

abbrev pub positionals_in : Piece → List (List ℕ)
positionals_in (Apart name value) = []
positionals_in (Joined name value) = []
positionals_in (Alone value) = value ∷ []

-- the words `--` and what stands behind it, if it stands there
abbrev pub with_dashes : Option (List (List ℕ)) → List (List ℕ)
with_dashes None = []
with_dashes (Some behind) = dashes ∷ behind

abbrev pub words_behind : Option (List (List ℕ)) → List (List ℕ)
words_behind None = []
words_behind (Some behind) = behind

-- no value is one of this option
abbrev pub HaveNo : List ℕ → List (List ℕ × List ℕ) → Type 0
HaveNo option [] = Unit {0}
HaveNo option (given ∷ rest) = (given.0 ≢ option) × HaveNo option rest

-- no option stands twice
abbrev pub StandOnce : List (List ℕ × List ℕ) → Type 0
StandOnce [] = Unit {0}
StandOnce (given ∷ rest) = HaveNo given.0 rest × StandOnce rest

-- one positional at most
abbrev pub at_most_one : Option (List ℕ) → List (List ℕ)
at_most_one None = []
at_most_one (Some value) = value ∷ []

-- Words spell what they give: they are those of pieces, one after another, and then, if a word `--` stands there, words
-- of which each is a positional.
pub record Spells (options words : List (List ℕ)) (g : Given) : Type 0 where
  pub pieces : List Piece
  pub behind : Option (List (List ℕ))
  pub words_are : words ≡ flat_map words_of pieces ++ with_dashes behind
  pub of_rule : AreOfRule options pieces
  pub behind_of_rule : ArentEmpty (words_behind behind)
  pub values_are : g.values ≡ flat_map values_in pieces
  pub stand_once : StandOnce g.values
  pub positional_is : at_most_one g.positional ≡ flat_map positionals_in pieces ++ words_behind behind

-- words spell one thing at most
abbrev pub SpellOne : Type 0
SpellOne = (options words : List (List ℕ)) (g other : Given) → Spells options words g → Spells options words other → g ≡ other
