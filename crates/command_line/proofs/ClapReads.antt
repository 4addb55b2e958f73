-- What clap finds in words is what is read from them, and it fails where nothing is read.
use Rattle.std.proofs.Common.{◌≡◌, ◌++◌, ◌∙◌, ◌||◌, ℕ, List, [], ◌∷◌, Bool, true, false, not, Option, Some, None, is_some, if◌then◌else◌, refl, sym, ap, ap₂, subst, arith}
use Rattle.std.specs.List.{list_any}
use Rattle.std.specs.Option.{option_and_then, option_map}
use Rattle.std.specs.Str.{bytes_eq}
use Rattle.std.proofs.lemmas.List.{append-nil}
use Rattle.clap.specs.Lexer.{long_of, short_of}
use Rattle.clap.specs.Kinds.{Kinds, or_else}
use Rattle.clap.specs.Walk.{Held, Row, idle, nothing_held, option as waits_for, arg_by_id, arg_by_long, first_of, Rule, Walk, has_row, reacted, settled, settled_rows, used}
use Rattle.clap.specs.Faults.{use_fault}
use Rattle.clap.specs.declared.error.ErrorKind.TheVariants.{ArgumentConflict, InvalidValue, UnknownArgument}
use Rattle.command_line.specs.Given.{Given, given, value_of}
use Rattle.command_line.specs.Words.{dashes, is_empty, is_name, is_option, is_value}
use Rattle.command_line.specs.Reading.{Look, given_by, look_behind, Named, Plain, Any, Value, Positional, state, look, put, put_positional, read_from, step_any, step_named}
use Rattle.command_line.specs.Command.{given_in, values_in}
use Rattle.command_line.proofs.Parts.{has_equals}
use Rattle.command_line.proofs.LookLemmas.{is_both, is_not, look-dashes, none_behind}
use Rattle.command_line.proofs.AppLemmas.{Texts, by_id, by_long, is_listed, named, option, positional, rules}
use Rattle.command_line.proofs.RowLemmas.{HaveValues, filled, first-new, first-old, first-none, has_row-append, has_value, one_more, row, values-append}
use Rattle.command_line.proofs.ViewLemmas.{View, dashes_alone, letters, empty, plain, view}
use Rattle.command_line.proofs.ViewLemmas.{named as named_word}
use Rattle.command_line.proofs.WalkReads.{all, at, fault, found_from, held_then, place, unless, use_again, use_empty, use_new, used_new}
use Rattle.command_line.proofs.FaultStays.{AreTexts, IsText, bad, bad_behind, bad_letters, bad_named}
use Rattle.command_line.proofs.TurnLemmas.{apart, apart_after, behind_after, behind_free, behind_taken, dashes_after, dashes_turn, fails, given_fault, given_rows, given_value, goes, joined, joined_after, plain_after, plain_free, plain_taken, turn, unknown, value_after, value_turn, waiting, waiting_fault}

-- ---- options

listed_is : (options : Texts) (name : List ℕ) → has_equals name ≡ false → is_listed (named options) name ≡ is_option options name
listed_is options [] e = none options
  where
    none : (xs : Texts) → is_listed (named xs) [] ≡ false
    none [] = refl
    none ([] ∷ xs) = none xs
    none ((x ∷ xs) ∷ more) = rw (filled x xs) (none more)
listed_is options (y ∷ name) e = same options ∙ rw (filled y name, e) refl
  where
    same : (xs : Texts) → is_listed (named xs) (y ∷ name) ≡ list_any (λ other. bytes_eq other (y ∷ name)) xs
    same [] = refl
    same ([] ∷ xs) = same xs
    same ((x ∷ rest) ∷ xs) = rw (filled x rest) (ap (λ (b : Bool). bytes_eq (x ∷ rest) (y ∷ name) || b) (same xs))

-- ---- what the rule makes of a word

named_none : (options : Texts) (name : List ℕ) (value : Option (List ℕ)) (g : Given) → is_option options name ≡ false → step_named options name value g ≡ None
named_none options name None g e = rw e refl
named_none options name (Some value) g e = rw e (go (is_empty value))
  where
    go : (b : Bool) → (if b || true then None else option_map (state Any) (put name value g)) ≡ None
    go true = refl
    go false = refl

named_apart : (options : Texts) (name : List ℕ) (g : Given) → is_option options name ≡ true → step_named options name None g ≡ Some (state (Value name) g)
named_apart options name g e = rw e refl

named_joined : (options : Texts) (name value : List ℕ) (g : Given) → is_option options name ≡ true → is_empty value ≡ false
    → step_named options name (Some value) g ≡ option_map (state Any) (put name value g)
named_joined options name value g e f = rw (f, e) refl

put_again : (name value : List ℕ) (g : Given) → is_some (value_of name g) ≡ true → put name value g ≡ None
put_again name value g e = rw e refl

put_new : (name value : List ℕ) (g : Given) → is_some (value_of name g) ≡ false → put name value g ≡ Some (record g { values = g.values ++ (name, value) ∷ [] })
put_new name value g e = rw e refl

positional_again : (value : List ℕ) (g : Given) → is_some g.positional ≡ true → put_positional value g ≡ None
positional_again value g e = rw e refl

positional_new : (value : List ℕ) (g : Given) → is_some g.positional ≡ false → put_positional value g ≡ Some (record g { positional = Some value })
positional_new value g e = rw e refl

-- ---- one more row

given_option : (x : ℕ) (name value : List ℕ) (rows : List Row) → has_row (x ∷ name) rows ≡ false
    → given_in (rows ++ row (x ∷ name) value ∷ []) ≡ given (values_in rows ++ (x ∷ name, value) ∷ []) (first_of [] rows)
given_option x name value rows e =
    ap₂ given (values-append (x ∷ name) value rows e ∙ rw (filled x name) refl) (go (has_row [] rows) refl)
  where
    go : (b : Bool) → has_row [] rows ≡ b → first_of [] (rows ++ row (x ∷ name) value ∷ []) ≡ first_of [] rows
    go true f = first-old [] rows (row (x ∷ name) value) f
    go false f = first-new [] rows (row (x ∷ name) value) f ∙ sym (first-none [] rows f)

given_positional : (value : List ℕ) (rows : List Row) → has_row [] rows ≡ false → given_in (rows ++ row [] value ∷ []) ≡ given (values_in rows) (Some value)
given_positional value rows e = ap₂ given (values-append [] value rows e ∙ append-nil (values_in rows)) (first-new [] rows (row [] value) e)

place_stays : (x : ℕ) (name value : List ℕ) (rows : List Row) → has_row [] (rows ++ row (x ∷ name) value ∷ []) ≡ has_row [] rows
place_stays x name value rows = has_row-append [] rows (row (x ∷ name) value) ∙ go (has_row [] rows)
  where
    go : (b : Bool) → (b || false) ≡ b
    go true = refl
    go false = refl

place_taken : (value : List ℕ) (rows : List Row) → has_row [] (rows ++ row [] value ∷ []) ≡ true
place_taken value rows = has_row-append [] rows (row [] value) ∙ go (has_row [] rows)
  where
    go : (b : Bool) → (b || true) ≡ true
    go true = refl
    go false = refl

-- ---- what is held

pub record Settles (names : Texts) (h : Held) (rows : List Row) : Type 0 where
  pub skip : h.skip ≡ 0
  pub passes : fault names h ≡ []
  pub are : settled_rows (all names) h.pending h.rows ≡ rows

end_is : (names : Texts) (h : Held) (rows : List Row) → Settles names h rows → unless (fault names h) (Some (given_in (settled (all names) h).rows)) ≡ Some (given_in rows)
end_is names h rows s = ap₂ (λ (f : Kinds) (rs : List Row). unless f (Some (given_in rs))) s.passes s.are

reacted_settles : (names : Texts) (h : Held) (name value : List ℕ) (rows : List Row) → Settles names h rows → has_row name rows ≡ false
    → Settles names (reacted (all names) (option name) (value ∷ []) h) (rows ++ row name value ∷ [])
reacted_settles names h name value rows s e = record {
  skip = s.skip;
  passes = refl;
  are = ap (λ (rs : List Row). used (option name) (value ∷ []) rs) s.are ∙ used_new name (Some name) None value rows e;
}

-- the positional has its value
abbrev holding : Texts → Held → List ℕ → Held
holding names h word = record (settled (all names) h) { pending = Some ([], word ∷ []) }

holding_fault : (names : Texts) (h : Held) (word : List ℕ) (rows : List Row) → Settles names h rows → fault names (holding names h word) ≡ use_fault false positional (word ∷ []) rows
holding_fault names h word rows s = ap (λ (rs : List Row). use_fault false positional (word ∷ []) rs) s.are

holding_settles : (names : Texts) (h : Held) (word : List ℕ) (rows : List Row) → Settles names h rows → has_row [] rows ≡ false → is_empty word ≡ false
    → Settles names (holding names h word) (rows ++ row [] word ∷ [])
holding_settles names h word rows s e f = record {
  skip = s.skip;
  passes = holding_fault names h word rows s ∙ use_new [] None (Some 1) word rows e f;
  are = ap (λ (rs : List Row). used positional (word ∷ []) rs) s.are ∙ used_new [] None (Some 1) word rows e;
}

-- ---- an option that is known

record IsKnown (options : Texts) (name : List ℕ) : Type 0 where
  some : is_empty name ≡ false
  long : arg_by_long (rules (named options)) name ≡ Some (option name)
  id : arg_by_id (rules (named options)) name ≡ Some (option name)

known : (options : Texts) (name : List ℕ) → is_option options name ≡ true → IsKnown options name
known options [] e = absurd (cc (e))
known options (x ∷ name) e =
    let is_listed_there = is_both (is_name (x ∷ name)) (list_any (λ other. bytes_eq other (x ∷ name)) options) e in
    let no_equals = is_not (has_equals (x ∷ name)) (is_both (not (is_empty (x ∷ name))) (not (has_equals (x ∷ name))) is_listed_there.0).1 in
    let listed : is_listed (named options) (x ∷ name) ≡ true = listed_is options (x ∷ name) no_equals ∙ e in
    let choice : Bool → Option Rule = λ b. if b then Some (option (x ∷ name)) else None in
    record {
      some = filled x name;
      long = by_long (named options) (x ∷ name) ∙ ap choice listed;
      id = by_id (named options) (x ∷ name) refl ∙ ap choice listed;
    }

unlisted : (options : Texts) (name : List ℕ) → has_equals name ≡ false → is_option options name ≡ false → arg_by_long (rules (named options)) name ≡ None
unlisted options name no_equals e =
    by_long (named options) name ∙ ap (λ (b : Bool). if b then Some (option name) else None) (listed_is options name no_equals ∙ e)

-- ---- what is found in words is what is read from them, wherever the walk stands

pub record Reads (options words : Texts) : Type 0 where
  pub any : (h : Held) (rows : List Row) → Settles (named options) h rows → HaveValues rows
      → found_from (named options) (at h idle (place (has_row [] rows)) false) words ≡ read_from options words (state Any (given_in rows))
  pub behind : (h : Held) (rows : List Row) → Settles (named options) h rows → HaveValues rows
      → found_from (named options) (at h idle (place (has_row [] rows)) true) words ≡ read_from options words (state Positional (given_in rows))
  pub value : (name : List ℕ) → is_option options name ≡ true → (rows : List Row) → HaveValues rows
      → found_from (named options) (at (record { rows = rows; pending = Some (name, []); skip = 0 }) (waits_for name) (place (has_row [] rows)) false) words
      ≡ read_from options words (state (Value name) (given_in rows))

module _ (options : Texts) (word : List ℕ) (words : Texts) (reads : Reads options words) (is_text : IsText word) (are_texts : AreTexts words) where
  -- what is read where the word looks so
  looked : (l : Look) (g : Given) → look word ≡ l → read_from options (word ∷ words) (state Any g) ≡ option_and_then (read_from options words) (step_any options l word g)
  looked l g e = ap (λ (k : Look). option_and_then (read_from options words) (step_any options k word g)) e

  -- an option's value, where it had none
  one_more_value : (name value : List ℕ) (rows : List Row) (h : Held) → IsKnown options name → HaveValues rows → has_row name rows ≡ false
      → Settles (named options) h (rows ++ row name value ∷ [])
      → found_from (named options) (at h idle (place (has_row [] rows)) false) words ≡ option_and_then (read_from options words) (option_map (state Any) (put name value (given_in rows)))
  one_more_value [] value rows h k values new s = absurd (cc (k.some))
  one_more_value (x ∷ name) value rows h k values new s =
      ap (λ (b : Bool). found_from (named options) (at h idle (place b) false) words) (sym (place_stays x name value rows))
      ∙ reads.any h (rows ++ row (x ∷ name) value ∷ []) s (one_more (x ∷ name) value rows values)
      ∙ ap (λ (g : Given). read_from options words (state Any g)) (given_option x name value rows new)
      ∙ ap (λ (o : Option Given). option_and_then (read_from options words) (option_map (state Any) o))
      (sym (put_new (x ∷ name) value (given_in rows) (has_value (x ∷ name) rows values k.some ∙ new)))

  no_more_value : (name value : List ℕ) (rows : List Row) → IsKnown options name → HaveValues rows → has_row name rows ≡ true
      → None ≡ option_and_then (read_from options words) (option_map (state Any) (put name value (given_in rows)))
  no_more_value name value rows k values again =
      ap (λ (o : Option Given). option_and_then (read_from options words) (option_map (state Any) o))
      (sym (put_again name value (given_in rows) (has_value name rows values k.some ∙ again)))

  -- ---- where it may be any

  joined_reads : (h : Held) (rows : List Row) → Settles (named options) h rows → HaveValues rows → (name value : List ℕ) → is_option options name ≡ true
      → long_of word ≡ Some (name, Some value) → bytes_eq word dashes ≡ false → (taken : Bool) → has_row name rows ≡ taken
      → found_from (named options) (at h idle (place (has_row [] rows)) false) (word ∷ words) ≡ option_and_then (read_from options words) (step_named options name (Some value) (given_in rows))
  joined_reads h rows s values name value is_known long other taken e = go value long taken e
    where
      k : IsKnown options name
      k = known options name is_known

      here : Walk
      here = at h idle (place (has_row [] rows)) false

      by_use : (v : List ℕ) → long_of word ≡ Some (name, Some v) → (kinds : Kinds) → use_fault false (option name) (v ∷ []) rows ≡ kinds → turn (named options) here word ≡ or_else (or_else [] kinds) []
      by_use v l kinds u =
          joined (named options) h (place (has_row [] rows)) word name other k.long idle v l
          ∙ ap₂ (λ (f f' : Kinds). or_else (or_else f f') []) s.passes (ap (λ (rs : List Row). use_fault false (option name) (v ∷ []) rs) s.are ∙ u)

      go : (v : List ℕ) → long_of word ≡ Some (name, Some v) → (b : Bool) → has_row name rows ≡ b
          → found_from (named options) here (word ∷ words) ≡ option_and_then (read_from options words) (step_named options name (Some v) (given_in rows))
      go [] l true f = fails (named options) here word words (ArgumentConflict ∷ []) None (by_use [] l (ArgumentConflict ∷ []) (use_again name (Some name) None [] rows f)) refl
      go [] l false f = fails (named options) here word words (InvalidValue ∷ []) None (by_use [] l (InvalidValue ∷ []) (use_empty name (Some name) None rows f)) refl
      go (x ∷ v) l true f =
          fails (named options) here word words (ArgumentConflict ∷ []) None (by_use (x ∷ v) l (ArgumentConflict ∷ []) (use_again name (Some name) None (x ∷ v) rows f)) refl
          ∙ no_more_value name (x ∷ v) rows k values f
          ∙ ap (option_and_then (read_from options words)) (sym (named_joined options name (x ∷ v) (given_in rows) is_known (filled x v)))
      go (x ∷ v) l false f =
          goes (named options) here (at (reacted (all (named options)) (option name) ((x ∷ v) ∷ []) h) idle (place (has_row [] rows)) false) word words
          (by_use (x ∷ v) l [] (use_new name (Some name) None (x ∷ v) rows f (filled x v)))
          (joined_after (named options) h (place (has_row [] rows)) word name other k.long (x ∷ v) l)
          ∙ one_more_value name (x ∷ v) rows (reacted (all (named options)) (option name) ((x ∷ v) ∷ []) h) k values f (reacted_settles (named options) h name (x ∷ v) rows s f)
          ∙ ap (option_and_then (read_from options words)) (sym (named_joined options name (x ∷ v) (given_in rows) is_known (filled x v)))

  apart_reads : (h : Held) (rows : List Row) → Settles (named options) h rows → HaveValues rows → (name : List ℕ) → is_option options name ≡ true
      → long_of word ≡ Some (name, None) → bytes_eq word dashes ≡ false
      → found_from (named options) (at h idle (place (has_row [] rows)) false) (word ∷ words) ≡ option_and_then (read_from options words) (step_named options name None (given_in rows))
  apart_reads h rows s values name is_known long other =
      let k : IsKnown options name = known options name is_known in
      goes (named options) (at h idle (place (has_row [] rows)) false)
      (at (record (settled (all (named options)) h) { pending = Some (name, []) }) (waits_for name) (place (has_row [] rows)) false) word words
      (apart (named options) h (place (has_row [] rows)) word name other k.long idle long ∙ ap (λ (f : Kinds). or_else f []) s.passes)
      (apart_after (named options) h (place (has_row [] rows)) word name other k.long long)
      ∙ ap₂ (λ (rs : List Row) (n : ℕ). found_from (named options) (at (record { rows = rs; pending = Some (name, []); skip = n }) (waits_for name) (place (has_row [] rows)) false) words) s.are s.skip
      ∙ reads.value name is_known rows values
      ∙ ap (option_and_then (read_from options words)) (sym (named_apart options name (given_in rows) is_known))

  named_reads : (h : Held) (rows : List Row) → Settles (named options) h rows → HaveValues rows → (name : List ℕ) (value : Option (List ℕ))
      → long_of word ≡ Some (name, value) → bytes_eq word dashes ≡ false → has_equals name ≡ false → (b : Bool) → is_option options name ≡ b
      → found_from (named options) (at h idle (place (has_row [] rows)) false) (word ∷ words) ≡ option_and_then (read_from options words) (step_named options name value (given_in rows))
  named_reads h rows s values name value long other no_equals false e =
      fails (named options) (at h idle (place (has_row [] rows)) false) word words (UnknownArgument ∷ []) None
      (unknown (named options) h (place (has_row [] rows)) word name other idle value long (unlisted options name no_equals e)) refl
      ∙ ap (option_and_then (read_from options words)) (sym (named_none options name value (given_in rows) e))
  named_reads h rows s values name None long other no_equals true e = apart_reads h rows s values name e long other
  named_reads h rows s values name (Some value) long other no_equals true e = joined_reads h rows s values name value e long other (has_row name rows) refl

  -- a positional, where none was and where one was
  plain_reads : (h : Held) (rows : List Row) → Settles (named options) h rows → HaveValues rows → look word ≡ Plain → long_of word ≡ None → short_of word ≡ None
      → bytes_eq word dashes ≡ false → is_value word ≡ true → is_empty word ≡ false → (taken : Bool) → has_row [] rows ≡ taken
      → found_from (named options) (at h idle (place taken) false) (word ∷ words) ≡ option_and_then (read_from options words) (step_any options Plain word (given_in rows))
  plain_reads h rows s values look_is long short other value_is some true e =
      fails (named options) (at h idle 2 false) word words (UnknownArgument ∷ []) None (plain_taken (named options) h word other long short) refl
      ∙ sym (rw (value_is) (ap (λ (o : Option Given). option_and_then (read_from options words) (option_map (state Any) o))
      (positional_again word (given_in rows) (values [] ∙ e))))
  plain_reads h rows s values look_is long short other value_is some false e =
      goes (named options) (at h idle 1 false) (at (holding (named options) h word) idle 2 false) word words
      (plain_free (named options) h word other long short ∙ s.passes)
      (plain_after (named options) h word other long short ∙ ap (λ (k : Held). at k idle 2 false) (held_then (named options) word h))
      ∙ ap (λ (b : Bool). found_from (named options) (at (holding (named options) h word) idle (place b) false) words) (sym (place_taken word rows))
      ∙ reads.any (holding (named options) h word) (rows ++ row [] word ∷ []) (holding_settles (named options) h word rows s e some) (one_more [] word rows values)
      ∙ ap (λ (g : Given). read_from options words (state Any g)) (given_positional word rows e)
      ∙ sym (rw (value_is) (ap (λ (o : Option Given). option_and_then (read_from options words) (option_map (state Any) o))
      (positional_new word (given_in rows) (values [] ∙ e))))

  behind_reads : (h : Held) (rows : List Row) → Settles (named options) h rows → HaveValues rows → is_empty word ≡ false → (taken : Bool) → has_row [] rows ≡ taken
      → found_from (named options) (at h idle (place taken) true) (word ∷ words) ≡ read_from options (word ∷ words) (state Positional (given_in rows))
  behind_reads h rows s values some true e =
      fails (named options) (at h idle 2 true) word words (UnknownArgument ∷ []) None (behind_taken (named options) h idle word) refl
      ∙ sym (rw (some) (ap (λ (o : Option Given). option_and_then (read_from options words) (option_map (state Positional) o))
      (positional_again word (given_in rows) (values [] ∙ e))))
  behind_reads h rows s values some false e =
      goes (named options) (at h idle 1 true) (at (holding (named options) h word) idle 2 true) word words
      (behind_free (named options) h idle word ∙ s.passes)
      (behind_after (named options) h idle word ∙ ap (λ (k : Held). at k idle 2 true) (held_then (named options) word h))
      ∙ ap (λ (b : Bool). found_from (named options) (at (holding (named options) h word) idle (place b) true) words) (sym (place_taken word rows))
      ∙ reads.behind (holding (named options) h word) (rows ++ row [] word ∷ []) (holding_settles (named options) h word rows s e some) (one_more [] word rows values)
      ∙ ap (λ (g : Given). read_from options words (state Positional g)) (given_positional word rows e)
      ∙ sym (rw (some) (ap (λ (o : Option Given). option_and_then (read_from options words) (option_map (state Positional) o))
      (positional_new word (given_in rows) (values [] ∙ e))))

  -- a value in a word of its own
  value_reads : (name : List ℕ) → IsKnown options name → (rows : List Row) → HaveValues rows → long_of word ≡ None → short_of word ≡ None
      → bytes_eq word dashes ≡ false → is_value word ≡ true → is_empty word ≡ false → (taken : Bool) → has_row name rows ≡ taken
      → found_from (named options) (at (record { rows = rows; pending = Some (name, []); skip = 0 }) (waits_for name) (place (has_row [] rows)) false) (word ∷ words)
      ≡ read_from options (word ∷ words) (state (Value name) (given_in rows))
  value_reads name k rows values long short other value_is some taken e =
      goes (named options) (at (waiting (named options) name k.id rows) (waits_for name) (place (has_row [] rows)) false)
      (at (given_value (named options) name k.id rows word) idle (place (has_row [] rows)) false) word words
      (value_turn (named options) name k.id rows (place (has_row [] rows)) word other long short)
      (value_after (named options) name k.id rows (place (has_row [] rows)) word other long short)
      ∙ go taken e ∙ sym (rw (value_is) refl)
    where
      h : Held
      h = given_value (named options) name k.id rows word

      go : (b : Bool) → has_row name rows ≡ b
          → found_from (named options) (at h idle (place (has_row [] rows)) false) words ≡ option_and_then (read_from options words) (option_map (state Any) (put name word (given_in rows)))
      go true f =
          bad (named options) words are_texts (has_row [] rows) h refl ArgumentConflict [] (given_fault (named options) name k.id rows word ∙ use_again name (Some name) None word rows f)
          ∙ no_more_value name word rows k values f
      go false f =
          one_more_value name word rows h k values f (record {
            skip = refl;
            passes = given_fault (named options) name k.id rows word ∙ use_new name (Some name) None word rows f some;
            are = given_rows (named options) name k.id rows word ∙ used_new name (Some name) None word rows f;
          })

  -- where an option waits for its value, and the word is none
  not_value : (name : List ℕ) (g : Given) → is_value word ≡ false → None ≡ read_from options (word ∷ words) (state (Value name) g)
  not_value name g e = sym (rw (e) refl)

  not_plain : (g : Given) → look word ≡ Plain → is_value word ≡ false → None ≡ read_from options (word ∷ words) (state Any g)
  not_plain g l e = sym (looked Plain g l ∙ rw (e) refl)

-- ---- the empty word, and `--`

some_of_value : (word : List ℕ) → is_value word ≡ true → is_empty word ≡ false
some_of_value [] e = absurd (cc (e))
some_of_value (x ∷ word) e = filled x word

look_empty : look [] ≡ Plain
unfolding look
look_empty = ap look_behind (none_behind dashes [] (λ rest e. grind (arith, e)))

module _ (options words : Texts) (reads : Reads options words) (are_texts : AreTexts words) where
  empty_any : (h : Held) (rows : List Row) → Settles (named options) h rows → (taken : Bool) → has_row [] rows ≡ taken
      → found_from (named options) (at h idle (place taken) false) ([] ∷ words) ≡ read_from options ([] ∷ words) (state Any (given_in rows))
  empty_any h rows s true e =
      fails (named options) (at h idle 2 false) [] words (UnknownArgument ∷ []) None (plain_taken (named options) h [] refl refl refl) refl
      ∙ sym (ap (λ (k : Look). option_and_then (read_from options words) (step_any options k [] (given_in rows))) look_empty)
  empty_any h rows s false e =
      goes (named options) (at h idle 1 false) (at (holding (named options) h []) idle 2 false) [] words
      (plain_free (named options) h [] refl refl refl ∙ s.passes)
      (plain_after (named options) h [] refl refl refl ∙ ap (λ (k : Held). at k idle 2 false) (held_then (named options) [] h))
      ∙ bad (named options) words are_texts true (holding (named options) h []) s.skip InvalidValue []
      (holding_fault (named options) h [] rows s ∙ use_empty [] None (Some 1) rows e)
      ∙ sym (ap (λ (k : Look). option_and_then (read_from options words) (step_any options k [] (given_in rows))) look_empty)

  empty_behind : (h : Held) (rows : List Row) → Settles (named options) h rows → (taken : Bool) → has_row [] rows ≡ taken
      → found_from (named options) (at h idle (place taken) true) ([] ∷ words) ≡ None
  empty_behind h rows s true e = fails (named options) (at h idle 2 true) [] words (UnknownArgument ∷ []) None (behind_taken (named options) h idle []) refl
  empty_behind h rows s false e =
      goes (named options) (at h idle 1 true) (at (holding (named options) h []) idle 2 true) [] words
      (behind_free (named options) h idle [] ∙ s.passes)
      (behind_after (named options) h idle [] ∙ ap (λ (k : Held). at k idle 2 true) (held_then (named options) [] h))
      ∙ bad_behind (named options) words idle true (holding (named options) h []) InvalidValue []
      (holding_fault (named options) h [] rows s ∙ use_empty [] None (Some 1) rows e)

  empty_value : (name : List ℕ) → IsKnown options name → (rows : List Row) → (taken : Bool) → has_row name rows ≡ taken
      → found_from (named options) (at (record { rows = rows; pending = Some (name, []); skip = 0 }) (waits_for name) (place (has_row [] rows)) false) ([] ∷ words) ≡ None
  empty_value name k rows taken e =
      goes (named options) (at (waiting (named options) name k.id rows) (waits_for name) (place (has_row [] rows)) false)
      (at (given_value (named options) name k.id rows []) idle (place (has_row [] rows)) false) [] words
      (value_turn (named options) name k.id rows (place (has_row [] rows)) [] refl refl refl)
      (value_after (named options) name k.id rows (place (has_row [] rows)) [] refl refl refl)
      ∙ go taken e
    where
      h : Held
      h = given_value (named options) name k.id rows []

      go : (b : Bool) → has_row name rows ≡ b → found_from (named options) (at h idle (place (has_row [] rows)) false) words ≡ None
      go true f =
          bad (named options) words are_texts (has_row [] rows) h refl ArgumentConflict [] (given_fault (named options) name k.id rows [] ∙ use_again name (Some name) None [] rows f)
      go false f =
          bad (named options) words are_texts (has_row [] rows) h refl InvalidValue [] (given_fault (named options) name k.id rows [] ∙ use_empty name (Some name) None rows f)

  dashes_any : (h : Held) (rows : List Row) → Settles (named options) h rows → HaveValues rows
      → found_from (named options) (at h idle (place (has_row [] rows)) false) (dashes ∷ words) ≡ read_from options (dashes ∷ words) (state Any (given_in rows))
  dashes_any h rows s values =
      goes (named options) (at h idle (place (has_row [] rows)) false) (at h idle (place (has_row [] rows)) true) dashes words
      (dashes_turn (named options) h idle (place (has_row [] rows))) (dashes_after (named options) h idle (place (has_row [] rows)))
      ∙ reads.behind h rows s values
      ∙ sym (ap (λ (k : Look). option_and_then (read_from options words) (step_any options k dashes (given_in rows))) look-dashes)

  dashes_value : (name : List ℕ) → IsKnown options name → (rows : List Row)
      → found_from (named options) (at (record { rows = rows; pending = Some (name, []); skip = 0 }) (waits_for name) (place (has_row [] rows)) false) (dashes ∷ words) ≡ None
  dashes_value name k rows =
      let h : Held = waiting (named options) name k.id rows in
      goes (named options) (at h (waits_for name) (place (has_row [] rows)) false) (at h (waits_for name) (place (has_row [] rows)) true) dashes words
      (dashes_turn (named options) h (waits_for name) (place (has_row [] rows))) (dashes_after (named options) h (waits_for name) (place (has_row [] rows)))
      ∙ bad_behind (named options) words (waits_for name) (has_row [] rows) h InvalidValue [] (waiting_fault (named options) name k.id rows)

-- ---- one more word

module _ (options : Texts) (word : List ℕ) (words : Texts) (reads : Reads options words) (is_text : IsText word) (are_texts : AreTexts words) where
  any_reads : View word → (h : Held) (rows : List Row) → Settles (named options) h rows → HaveValues rows
      → found_from (named options) (at h idle (place (has_row [] rows)) false) (word ∷ words) ≡ read_from options (word ∷ words) (state Any (given_in rows))
  any_reads (dashes_alone is) h rows s values =
      subst (λ (w : List ℕ). found_from (named options) (at h idle (place (has_row [] rows)) false) (w ∷ words) ≡ read_from options (w ∷ words) (state Any (given_in rows)))
      (sym is) (dashes_any options words reads are_texts h rows s values)
  any_reads (named_word name value look_is long other not_value_is no_equals) h rows s values =
      named_reads options word words reads is_text are_texts h rows s values name value long other no_equals (is_option options name) refl
      ∙ sym (looked options word words reads is_text are_texts (Named name value) (given_in rows) look_is)
  any_reads (letters first more is look_is long short other not_value_is) h rows s values =
      bad_letters (named options) word words idle (place (has_row [] rows)) h s.skip first more is is_text long short other
      ∙ not_plain options word words reads is_text are_texts (given_in rows) look_is not_value_is
  any_reads (empty is) h rows s values =
      subst (λ (w : List ℕ). found_from (named options) (at h idle (place (has_row [] rows)) false) (w ∷ words) ≡ read_from options (w ∷ words) (state Any (given_in rows)))
      (sym is) (empty_any options words reads are_texts h rows s (has_row [] rows) refl)
  any_reads (plain look_is long short other value_is) h rows s values =
      plain_reads options word words reads is_text are_texts h rows s values look_is long short other value_is (some_of_value word value_is) (has_row [] rows) refl
      ∙ sym (looked options word words reads is_text are_texts Plain (given_in rows) look_is)

  behind_word : (empty_word : Bool) → is_empty word ≡ empty_word → (h : Held) (rows : List Row) → Settles (named options) h rows → HaveValues rows
      → found_from (named options) (at h idle (place (has_row [] rows)) true) (word ∷ words) ≡ read_from options (word ∷ words) (state Positional (given_in rows))
  behind_word false e h rows s values = behind_reads options word words reads is_text are_texts h rows s values e (has_row [] rows) refl
  behind_word true e h rows s values =
      subst (λ (w : List ℕ). found_from (named options) (at h idle (place (has_row [] rows)) true) (w ∷ words) ≡ read_from options (w ∷ words) (state Positional (given_in rows)))
      (sym (nothing word e)) (empty_behind options words reads are_texts h rows s (has_row [] rows) refl)
    where
      nothing : (w : List ℕ) → is_empty w ≡ true → w ≡ []
      nothing [] f = refl
      nothing (x ∷ xs) f = let other = filled x xs in absurd (cc (f, other))

  value_word : View word → (name : List ℕ) → is_option options name ≡ true → (rows : List Row) → HaveValues rows
      → found_from (named options) (at (record { rows = rows; pending = Some (name, []); skip = 0 }) (waits_for name) (place (has_row [] rows)) false) (word ∷ words)
      ≡ read_from options (word ∷ words) (state (Value name) (given_in rows))
  value_word (dashes_alone is) name e rows values =
      subst (λ (w : List ℕ). found_from (named options) (at (record { rows = rows; pending = Some (name, []); skip = 0 }) (waits_for name) (place (has_row [] rows)) false) (w ∷ words)
      ≡ read_from options (w ∷ words) (state (Value name) (given_in rows)))
      (sym is) (dashes_value options words reads are_texts name (known options name e) rows)
  value_word (named_word other_name value look_is long other not_value_is no_equals) name e rows values =
      let k : IsKnown options name = known options name e in
      bad_named (named options) word words (waits_for name) (place (has_row [] rows)) (waiting (named options) name k.id rows) InvalidValue []
      (waiting_fault (named options) name k.id rows) other_name value long other
      ∙ not_value options word words reads is_text are_texts name (given_in rows) not_value_is
  value_word (letters first more is look_is long short other not_value_is) name e rows values =
      let k : IsKnown options name = known options name e in
      bad_letters (named options) word words (waits_for name) (place (has_row [] rows)) (waiting (named options) name k.id rows) refl first more is is_text long short other
      ∙ not_value options word words reads is_text are_texts name (given_in rows) not_value_is
  value_word (empty is) name e rows values =
      subst (λ (w : List ℕ). found_from (named options) (at (record { rows = rows; pending = Some (name, []); skip = 0 }) (waits_for name) (place (has_row [] rows)) false) (w ∷ words)
      ≡ read_from options (w ∷ words) (state (Value name) (given_in rows)))
      (sym is) (empty_value options words reads are_texts name (known options name e) rows (has_row name rows) refl)
  value_word (plain look_is long short other value_is) name e rows values =
      value_reads options word words reads is_text are_texts name (known options name e) rows values long short other value_is (some_of_value word value_is) (has_row name rows) refl

pub reads : (options words : Texts) → AreTexts words → Reads options words
reads options [] t = record {
  any = λ h rows s values. end_is (named options) h rows s;
  behind = λ h rows s values. end_is (named options) h rows s;
  value = λ name e rows values. ap (λ (f : Kinds). unless f (Some (given_in (settled (all (named options)) (record { rows = rows; pending = Some (name, []); skip = 0 })).rows)))
      (waiting_fault (named options) name (known options name e).id rows);
}
reads options (word ∷ words) t = record {
  any = λ h rows s values. any_reads options word words (reads options words t.1) t.0 t.1 (view word) h rows s values;
  behind = λ h rows s values. behind_word options word words (reads options words t.1) t.0 t.1 (is_empty word) refl h rows s values;
  value = λ name e rows values. value_word options word words (reads options words t.1) t.0 t.1 (view word) name e rows values;
}

-- from the first word on
pub found_is_read : (options words : Texts) → AreTexts words → found_from (named options) (at nothing_held idle 1 false) words ≡ given_by options words
unfolding given_by
found_is_read options words t = (reads options words t).any nothing_held [] (record { skip = refl; passes = refl; are = refl }) (λ id. refl)
