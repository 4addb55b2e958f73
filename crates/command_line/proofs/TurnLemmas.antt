-- One turn of clap's walk: what a word of each look comes to.
use Rattle.std.proofs.Common.{◌≡◌, ◌∙◌, ℕ, List, [], ◌∷◌, true, false, Option, Some, None, refl, ap}
use Rattle.std.specs.List.{slice_get}
use Rattle.std.specs.Str.{bytes_eq, chars}
use Rattle.std.proofs.lemmas.Slice.Eq.{bytes_eq-Decides}
use Rattle.clap.specs.Lexer.{long_of, short_of}
use Rattle.clap.specs.Kinds.{Kinds, or_else}
use Rattle.clap.specs.Walk.{Held, Row, Waiting, Walk, idle, settled_rows, used, positional as waits_for_more, option as waits_for, arg_by_id, arg_by_long, positional_held, reacted, settled, walked_from}
use Rattle.clap.specs.Faults.{turn_fault, use_fault}
use Rattle.clap.specs.declared.error.ErrorKind.TheVariants.{InvalidValue, UnknownArgument}
use Rattle.command_line.specs.Given.{Given}
use Rattle.command_line.specs.Words.{dashes}
use Rattle.command_line.proofs.AppLemmas.{Texts, by_place, option, positional, shape_with}
use Rattle.command_line.proofs.WalkReads.{all, at, bundle_fails, fault, found_from, settles_first, unless}

-- what the turn at this word fails by, and where it leads
abbrev pub turn : Texts → Walk → List ℕ → Kinds
turn names w word = turn_fault (shape_with (all names)) [] w word

abbrev pub after : Texts → Walk → List ℕ → Walk
after names w word = walked_from (all names) [] w.stopped w word

pub fails : (names : Texts) (w : Walk) (word : List ℕ) (words : Texts) (kinds : Kinds) (found : Option Given) → turn names w word ≡ kinds → unless kinds (found_from names (after names w word) words) ≡ found
    → found_from names w (word ∷ words) ≡ found
fails names w word words kinds found e f = ap (λ (k : Kinds). unless k (found_from names (after names w word) words)) e ∙ f

pub goes : (names : Texts) (w to : Walk) (word : List ℕ) (words : Texts) → turn names w word ≡ [] → after names w word ≡ to → found_from names w (word ∷ words) ≡ found_from names to words
goes names w to word words e f = ap (λ (k : Kinds). unless k (found_from names (after names w word) words)) e ∙ ap (λ (v : Walk). found_from names v words) f

-- ---- behind `--`

pub behind_taken : (names : Texts) (h : Held) (waiting : Waiting) (word : List ℕ) → turn names (at h waiting 2 true) word ≡ UnknownArgument ∷ []
behind_taken names h waiting word = rw (by_place names) refl

pub behind_free : (names : Texts) (h : Held) (waiting : Waiting) (word : List ℕ) → turn names (at h waiting 1 true) word ≡ fault names h
behind_free names h waiting word = settles_first names h

pub behind_after : (names : Texts) (h : Held) (waiting : Waiting) (word : List ℕ) → after names (at h waiting 1 true) word ≡ at (positional_held (all names) positional word h) idle 2 true
behind_after names h waiting word = refl

-- ---- `--`

pub dashes_turn : (names : Texts) (h : Held) (waiting : Waiting) (position : ℕ) → turn names (at h waiting position false) dashes ≡ []
dashes_turn names h idle position = refl
dashes_turn names h (waits_for name) position = refl
dashes_turn names h waits_for_more position = refl

pub dashes_after : (names : Texts) (h : Held) (waiting : Waiting) (position : ℕ) → after names (at h waiting position false) dashes ≡ at h waiting position true
dashes_after names h idle position = refl
dashes_after names h (waits_for name) position = refl
dashes_after names h waits_for_more position = refl

-- ---- an option

module _ (names : Texts) (h : Held) (position : ℕ) (word name : List ℕ) (other : bytes_eq word dashes ≡ false) where
  pub unknown : (waiting : Waiting) (value : Option (List ℕ)) → long_of word ≡ Some (name, value) → arg_by_long (all names) name ≡ None
      → turn names (at h waiting position false) word ≡ UnknownArgument ∷ []
  unknown idle value e f = rw (other, e, f) refl
  unknown (waits_for id) value e f = rw (other, e, f) refl
  unknown waits_for_more value e f = rw (other, e, f) refl

  module _ (known : arg_by_long (all names) name ≡ Some (option name)) where
    pub apart : (waiting : Waiting) → long_of word ≡ Some (name, None) → turn names (at h waiting position false) word ≡ or_else (fault names h) []
    apart idle e = rw (other, e, known) refl
    apart (waits_for id) e = rw (other, e, known) refl
    apart waits_for_more e = rw (other, e, known) refl

    pub apart_after : long_of word ≡ Some (name, None)
        → after names (at h idle position false) word ≡ at (record (settled (all names) h) { pending = Some (name, []) }) (waits_for name) position false
    apart_after e = rw (other, e, known) refl

    pub joined : (waiting : Waiting) (value : List ℕ) → long_of word ≡ Some (name, Some value)
        → turn names (at h waiting position false) word ≡ or_else (or_else (fault names h) (use_fault false (option name) (value ∷ []) (settled (all names) h).rows)) []
    joined idle value e = rw (other, e, known) refl
    joined (waits_for id) value e = rw (other, e, known) refl
    joined waits_for_more value e = rw (other, e, known) refl

    pub joined_after : (value : List ℕ) → long_of word ≡ Some (name, Some value)
        → after names (at h idle position false) word ≡ at (reacted (all names) (option name) (value ∷ []) h) idle position false
    joined_after value e = rw (other, e, known) refl

-- ---- letters

pub letters_turn : (names : Texts) (h : Held) (waiting : Waiting) (position : ℕ) (word : List ℕ) (letter first : ℕ) (more : List ℕ) → bytes_eq word dashes ≡ false
    → long_of word ≡ None → short_of word ≡ Some (first ∷ more) → slice_get (chars (first ∷ more)) 0 ≡ Some letter → h.skip ≡ 0
    → turn names (at h waiting position false) word ≡ UnknownArgument ∷ []
letters_turn names h idle position word letter first more other e f g skip = rw (other, e, f, bundle_fails names letter first more h g skip) refl
letters_turn names h (waits_for id) position word letter first more other e f g skip = rw (other, e, f, bundle_fails names letter first more h g skip) refl
letters_turn names h waits_for_more position word letter first more other e f g skip = rw (other, e, f, bundle_fails names letter first more h g skip) refl

-- ---- any other word

module _ (names : Texts) (h : Held) (word : List ℕ) (other : bytes_eq word dashes ≡ false) (no_long : long_of word ≡ None) (no_short : short_of word ≡ None) where
  pub plain_taken : turn names (at h idle 2 false) word ≡ UnknownArgument ∷ []
  plain_taken = rw (other, no_long, no_short, by_place names) refl

  pub plain_free : turn names (at h idle 1 false) word ≡ fault names h
  plain_free = rw (other, no_long, no_short) (settles_first names h)

  pub plain_after : after names (at h idle 1 false) word ≡ at (positional_held (all names) positional word h) idle 2 false
  plain_after = rw (other, no_long, no_short) refl

-- ---- the value of an option that waits for it

module _ (names : Texts) (name : List ℕ) (known : arg_by_id (all names) name ≡ Some (option name)) (rows : List Row) where
  -- the option waits
  abbrev pub waiting : Held
  waiting = record { rows = rows; pending = Some (name, []); skip = 0 }

  -- it has its value
  abbrev pub given_value : List ℕ → Held
  given_value value = record { rows = rows; pending = Some (name, value ∷ []); skip = 0 }

  pub waiting_fault : fault names waiting ≡ InvalidValue ∷ []
  waiting_fault = rw known refl

  pub given_fault : (value : List ℕ) → fault names (given_value value) ≡ use_fault false (option name) (value ∷ []) rows
  given_fault value = rw known refl

  pub given_rows : (value : List ℕ) → settled_rows (all names) (given_value value).pending rows ≡ used (option name) (value ∷ []) rows
  given_rows value = rw known refl

  module _ (position : ℕ) (word : List ℕ) (other : bytes_eq word dashes ≡ false) (no_long : long_of word ≡ None) (no_short : short_of word ≡ None) where
    pub value_turn : turn names (at waiting (waits_for name) position false) word ≡ []
    value_turn = rw (other, no_long, no_short) refl

    pub value_after : after names (at waiting (waits_for name) position false) word ≡ at (given_value word) idle position false
    value_after = let same : bytes_eq name name ≡ true = (bytes_eq-Decides name name).1 refl in rw (other, no_long, no_short, known, same) refl
