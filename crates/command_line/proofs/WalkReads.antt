-- What clap's walk over the words finds is what is read from them.
use Rattle.std.proofs.Common.{◌≡◌, ◌++◌, ◌∙◌, ◌&&◌, ℕ, suc, List, [], ◌∷◌, Bool, true, false, Option, Some, None, if◌then◌else◌, length, refl, sym, ap, fold, arith}
use Rattle.std.specs.Prelude.{nat_lt}
use Rattle.std.specs.List.{slice_get}
use Rattle.std.specs.Str.{chars}
use Rattle.std.proofs.lemmas.Bool.Decides.{nat_tests}
use Rattle.std.proofs.lemmas.Grind.{common_steps}
use Rattle.clap.specs.Kinds.{Kinds, or_else}
use Rattle.clap.specs.Values.{reading_of}
use Rattle.clap.specs.Walk.{Held, Row, Rule, Waiting, Walk, is_pending, positional_held, pushed, settled, used, walked, walked_from, has_row, with_values}
use Rattle.clap.specs.Faults.{bundle_fault, flags_fault, positional_fault, settle_fault, turn_fault, use_fault, walk_fault}
use Rattle.clap.specs.declared.error.ErrorKind.TheVariants.{ArgumentConflict, InvalidValue, UnknownArgument}
use Rattle.clap.specs.declared.parser.matches.ValueSource.TheVariants.{CommandLine}
use Rattle.clap.specs.declared.builder.ValueParser.TheVariants.{NonEmptyString}
use Rattle.command_line.specs.Given.{Given}
use Rattle.command_line.specs.Words.{is_empty}
use Rattle.command_line.specs.Command.{given_in}
use Rattle.command_line.proofs.AppLemmas.{Texts, by_letter, option, positional, rules, shape_with}
use Rattle.command_line.proofs.RowLemmas.{no_row_out, row, row_at_end}

-- ---- what is found where nothing fails

abbrev pub unless : Kinds → Option Given → Option Given
unless [] found = found
unless (kind ∷ kinds) found = None

pub unless_first : (a b : Kinds) (found : Option Given) → unless (or_else a b) found ≡ unless a (unless b found)
unless_first [] b found = refl
unless_first (kind ∷ kinds) b found = refl

module _ (names : Texts) where
  abbrev pub all : List Rule
  all = rules names

  abbrev pub fault : Held → Kinds
  fault = settle_fault all false

  -- what the walk finds from here on
  abbrev pub found_from : Walk → Texts → Option Given
  found_from w [] = unless (fault w.held) (Some (given_in (settled all w.held).rows))
  found_from w (word ∷ words) = unless (turn_fault (shape_with all) [] w word) (found_from (walked_from all [] w.stopped w word) words)

  pub found_is : (words : Texts) (w : Walk)
      → unless (or_else (walk_fault (shape_with all) [] w words) (fault (fold (walked all []) w words).held))
      (Some (given_in (settled all (fold (walked all []) w words).held).rows)) ≡ found_from w words
  unfolding walk_fault walked
  found_is [] w = refl
  found_is (word ∷ words) w =
      let end : Held = (fold (walked all []) (walked_from all [] w.stopped w word) words).held in
      let found : Option Given = Some (given_in (settled all end).rows) in
      let first : Kinds = turn_fault (shape_with all) [] w word in
      let more : Kinds = walk_fault (shape_with all) [] (walked_from all [] w.stopped w word) words in
      unless_first (or_else first more) (fault end) found
      ∙ unless_first first more (unless (fault end) found)
      ∙ ap (unless first) (sym (unless_first more (fault end) found) ∙ found_is words (walked_from all [] w.stopped w word))

-- ---- where the walk stands

abbrev pub at : Held → Waiting → ℕ → Bool → Walk
at held waiting position is_trailing = record { held = held; waiting = waiting; position = position; is_trailing = is_trailing; stopped = None }

abbrev pub place : Bool → ℕ
place taken = if taken then 2 else 1

-- ---- a use with one value

abbrev valued : List ℕ → Option (List ℕ) → Option ℕ → Rule
valued id long index = record (option id) { long = long; index = index }

some_length : (x : ℕ) (xs : List ℕ) → nat_lt 0 (length (x ∷ xs)) ≡ true
some_length x xs = grind (arith, nat_tests, common_steps)

pub use_new : (id : List ℕ) (long : Option (List ℕ)) (index : Option ℕ) (value : List ℕ) (rows : List Row) → has_row id rows ≡ false → is_empty value ≡ false
    → use_fault false (valued id long index) (value ∷ []) rows ≡ []
use_new id long index [] rows e f = absurd (cc (f))
use_new id long index (x ∷ xs) rows e f = rw (e, some_length x xs) refl

pub use_again : (id : List ℕ) (long : Option (List ℕ)) (index : Option ℕ) (value : List ℕ) (rows : List Row) → has_row id rows ≡ true
    → use_fault false (valued id long index) (value ∷ []) rows ≡ ArgumentConflict ∷ []
use_again id long index value rows e = rw e refl

pub use_empty : (id : List ℕ) (long : Option (List ℕ)) (index : Option ℕ) (rows : List Row) → has_row id rows ≡ false
    → use_fault false (valued id long index) ([] ∷ []) rows ≡ InvalidValue ∷ []
use_empty id long index rows e = rw e refl

pub used_new : (id : List ℕ) (long : Option (List ℕ)) (index : Option ℕ) (value : List ℕ) (rows : List Row) → has_row id rows ≡ false
    → used (valued id long index) (value ∷ []) rows ≡ rows ++ row id value ∷ []
used_new id long index value rows e =
    ap (with_values id (reading_of NonEmptyString) CommandLine (value ∷ [])) (no_row_out id rows e) ∙ row_at_end id value rows e

-- ---- a word of letters

letters_fail : (names : Texts) (letter : ℕ) (flags : List ℕ) (n : ℕ) (h : Held) → slice_get (chars flags) 0 ≡ Some letter
    → flags_fault (all names) false (suc n) flags 0 h ≡ UnknownArgument ∷ []
unfolding flags_fault
letters_fail names letter flags n h first = rw (first, by_letter names letter) refl

pub bundle_fails : (names : Texts) (letter first : ℕ) (more : List ℕ) (h : Held) → slice_get (chars (first ∷ more)) 0 ≡ Some letter → h.skip ≡ 0
    → bundle_fault (all names) false (first ∷ more) h ≡ UnknownArgument ∷ []
bundle_fails names letter first more h e skip = rw skip (letters_fail names letter (first ∷ more) (length more) (record h { skip = 0 }) e)

-- ---- a word that goes to the positional

pub settles_first : (names : Texts) (h : Held) → positional_fault (all names) false positional h ≡ fault names h
settles_first names h = go (is_pending positional h.pending)
  where
    go : (b : Bool) → (if b && false then [] else fault names h) ≡ fault names h
    go true = refl
    go false = refl

pub held_then : (names : Texts) (word : List ℕ) (h : Held) → positional_held (all names) positional word h ≡ record (settled (all names) h) { pending = Some ([], word ∷ []) }
held_then names word h = go (is_pending positional h.pending)
  where
    go : (b : Bool) → pushed [] word (if b && false then h else settled (all names) h) ≡ record (settled (all names) h) { pending = Some ([], word ∷ []) }
    go true = refl
    go false = refl
