-- Where something fails, nothing is found, whatever words follow.
use Rattle.std.proofs.Common.{◌≡◌, ◌∙◌, ℕ, List, [], ◌∷◌, Bool, true, false, Option, Some, None, if◌then◌else◌, refl, sym, ap, subst, arith}
use Rattle.std.specs.List.{slice_get}
use Rattle.std.specs.Str.{all_scalars, bytes_eq, chars, encode_utf8_all}
use Rattle.std.proofs.lemmas.Str.{chars-encodes}
use Rattle.clap.specs.Lexer.{long_of, short_of}
use Rattle.clap.specs.Kinds.{Kinds, or_else}
use Rattle.clap.specs.Walk.{Held, Waiting, idle, arg_by_long, settled}
use Rattle.clap.specs.Faults.{use_fault}
use Rattle.clap.specs.declared.error.ErrorKind.{ErrorKind}
use Rattle.clap.specs.declared.error.ErrorKind.TheVariants.{UnknownArgument}
use Rattle.command_line.specs.Words.{dashes}
use Rattle.command_line.specs.Command.{given_in}
use Rattle.command_line.proofs.AppLemmas.{Texts, by_long, is_listed, option}
use Rattle.command_line.proofs.ViewLemmas.{View, dashes_alone, letters, empty, plain, view}
use Rattle.command_line.proofs.ViewLemmas.{named as named_word}
use Rattle.command_line.proofs.WalkReads.{all, at, fault, found_from, place, unless}
use Rattle.command_line.proofs.TurnLemmas.{apart, behind_free, behind_taken, dashes_after, dashes_turn, fails, goes, joined, letters_turn, plain_free, plain_taken, unknown}

-- ---- texts

-- the word has the bytes of some characters
abbrev pub IsText : List ℕ → Type 0
IsText word = (cs : List ℕ) × ((all_scalars cs ≡ true) × (encode_utf8_all cs ≡ word))

abbrev pub AreTexts : Texts → Type 0
AreTexts [] = Unit {0}
AreTexts (word ∷ words) = IsText word × AreTexts words

first_char : (first : ℕ) (more : List ℕ) → chars (45 ∷ first ∷ more) ≡ 45 ∷ chars (first ∷ more)
unfolding chars
first_char first more = refl

-- a letter follows the `-`
pub letter_of : (first : ℕ) (more : List ℕ) → IsText (45 ∷ first ∷ more) → (letter : ℕ) × (slice_get (chars (first ∷ more)) 0 ≡ Some letter)
unfolding lib.Utf8.encode
letter_of first more t = go (chars (first ∷ more)) (sym (chars-encodes t.0 t.1.0) ∙ ap chars t.1.1 ∙ first_char first more)
  where
    go : (rest : List ℕ) → t.0 ≡ 45 ∷ rest → (letter : ℕ) × (slice_get rest 0 ≡ Some letter)
    go [] e = let bad : 45 ∷ [] ≡ 45 ∷ first ∷ more = ap encode_utf8_all (sym e) ∙ t.1.1 in absurd (grind (arith, bad))
    go (c ∷ rest) e = (c, refl)

-- ---- a fault stays

module _ (names : Texts) where
  pub bad_behind : (words : Texts) (w : Waiting) (taken : Bool) (h : Held) (k : ErrorKind) (kinds : Kinds) → fault names h ≡ k ∷ kinds → found_from names (at h w (place taken) true) words ≡ None
  bad_behind [] w taken h k kinds e = ap (λ (f : Kinds). unless f (Some (given_in (settled (all names) h).rows))) e
  bad_behind (word ∷ words) w true h k kinds e = fails names (at h w 2 true) word words (UnknownArgument ∷ []) None (behind_taken names h w word) refl
  bad_behind (word ∷ words) w false h k kinds e = fails names (at h w 1 true) word words (k ∷ kinds) None (behind_free names h w word ∙ e) refl

  -- an option's word, where something fails already
  pub bad_named : (word : List ℕ) (words : Texts) (w : Waiting) (position : ℕ) (h : Held) (k : ErrorKind) (kinds : Kinds) → fault names h ≡ k ∷ kinds
      → (name : List ℕ) (value : Option (List ℕ)) → long_of word ≡ Some (name, value) → bytes_eq word dashes ≡ false
      → found_from names (at h w position false) (word ∷ words) ≡ None
  bad_named word words w position h k kinds e name value long other = go (is_listed names name) (by_long names name) value long
    where
      go : (b : Bool) → arg_by_long (all names) name ≡ (if b then Some (option name) else None) → (v : Option (List ℕ)) → long_of word ≡ Some (name, v)
          → found_from names (at h w position false) (word ∷ words) ≡ None
      go false f v l = fails names (at h w position false) word words (UnknownArgument ∷ []) None (unknown names h position word name other w v l f) refl
      go true f None l =
          fails names (at h w position false) word words (or_else (k ∷ kinds) []) None (apart names h position word name other f w l ∙ ap (λ (x : Kinds). or_else x []) e) refl
      go true f (Some v) l =
          fails names (at h w position false) word words (or_else (or_else (k ∷ kinds) (use_fault false (option name) (v ∷ []) (settled (all names) h).rows)) []) None
          (joined names h position word name other f w v l ∙ ap (λ (x : Kinds). or_else (or_else x (use_fault false (option name) (v ∷ []) (settled (all names) h).rows)) []) e) refl

  pub bad_letters : (word : List ℕ) (words : Texts) (w : Waiting) (position : ℕ) (h : Held) → h.skip ≡ 0 → (first : ℕ) (more : List ℕ) → word ≡ 45 ∷ first ∷ more → IsText word
      → long_of word ≡ None → short_of word ≡ Some (first ∷ more) → bytes_eq word dashes ≡ false → found_from names (at h w position false) (word ∷ words) ≡ None
  bad_letters word words w position h skip first more is text long short other =
      let letter = letter_of first more (subst IsText is text) in
      fails names (at h w position false) word words (UnknownArgument ∷ []) None (letters_turn names h w position word letter.0 first more other long short letter.1 skip) refl

  pub bad_plain : (word : List ℕ) (words : Texts) (taken : Bool) (h : Held) (k : ErrorKind) (kinds : Kinds) → fault names h ≡ k ∷ kinds
      → long_of word ≡ None → short_of word ≡ None → bytes_eq word dashes ≡ false → found_from names (at h idle (place taken) false) (word ∷ words) ≡ None
  bad_plain word words true h k kinds e long short other = fails names (at h idle 2 false) word words (UnknownArgument ∷ []) None (plain_taken names h word other long short) refl
  bad_plain word words false h k kinds e long short other = fails names (at h idle 1 false) word words (k ∷ kinds) None (plain_free names h word other long short ∙ e) refl

  pub bad : (words : Texts) → AreTexts words → (taken : Bool) (h : Held) → h.skip ≡ 0 → (k : ErrorKind) (kinds : Kinds) → fault names h ≡ k ∷ kinds
      → found_from names (at h idle (place taken) false) words ≡ None
  bad [] t taken h skip k kinds e = ap (λ (f : Kinds). unless f (Some (given_in (settled (all names) h).rows))) e
  bad (word ∷ words) t taken h skip k kinds e = go (view word)
    where
      go : View word → found_from names (at h idle (place taken) false) (word ∷ words) ≡ None
      go (dashes_alone is) =
          ap (λ (x : List ℕ). found_from names (at h idle (place taken) false) (x ∷ words)) is
          ∙ goes names (at h idle (place taken) false) (at h idle (place taken) true) dashes words (dashes_turn names h idle (place taken)) (dashes_after names h idle (place taken))
          ∙ bad_behind words idle taken h k kinds e
      go (named_word name value look_is long other is no_equals) = bad_named word words idle (place taken) h k kinds e name value long other
      go (letters first more is look_is long short other not_value) = bad_letters word words idle (place taken) h skip first more is t.0 long short other
      go (empty is) =
          ap (λ (x : List ℕ). found_from names (at h idle (place taken) false) (x ∷ words)) is ∙ bad_plain [] words taken h k kinds e refl refl refl
      go (plain look_is long short other value_is) = bad_plain word words taken h k kinds e long short other
