-- The pieces of words from which something is read.
use Rattle.std.proofs.Common.{◌≡◌, ◌≢◌, ◌||◌, ◌++◌, ◌∙◌, ℕ, List, [], ◌∷◌, Bool, true, false, not, Option, Some, None, if◌then◌else◌, refl, ap, ap₂, arith}
use Rattle.std.specs.List.{flat_map}
use Rattle.std.specs.Option.{option_and_then, option_map}
use Rattle.command_line.specs.Given.{Given}
use Rattle.command_line.specs.Words.{Piece, Apart, Joined, Alone, AreOfRule, ArentEmpty, dashes, is_empty, is_option, is_value, with_dashes, words_behind, words_of}
use Rattle.command_line.specs.Reading.{Look, Dashes, Named, Plain, Any, Value, Positional, State, state, look, put, put_positional, read_from, step_any}
use Rattle.command_line.proofs.LookLemmas.{look-is, IsWordOf}
use Rattle.command_line.proofs.GivingLemmas.{give_all, give_positionals}
use Rattle.command_line.proofs.ReadLemmas.{Words}

-- the words are those of pieces, which give this
pub record IsLine (options words : Words) (g m : Given) : Type 0 where
  pub pieces : List Piece
  pub behind : Option Words
  pub words_are : words ≡ flat_map words_of pieces ++ with_dashes behind
  pub of_rule : AreOfRule options pieces
  pub behind_of_rule : ArentEmpty (words_behind behind)
  pub gives : give_all pieces (words_behind behind) g ≡ Some m

-- the first word is a value of this option, and the others are those of pieces
pub record IsValueLine (options words : Words) (name : List ℕ) (g m : Given) : Type 0 where
  pub value : List ℕ
  pub rest : Words
  pub words_are : words ≡ value ∷ rest
  pub of_rule : is_value value ≡ true
  pub after : Given
  pub put_is : put name value g ≡ Some after
  pub line : IsLine options rest after m

-- what is read of words, by what the first of them is
pub record Reads (options words : Words) : Type 0 where
  pub any : (g m : Given) → read_from options words (state Any g) ≡ Some m → IsLine options words g m
  pub named : (name : List ℕ) (g m : Given) → read_from options words (state (Value name) g) ≡ Some m → IsValueLine options words name g m
  pub positional : (g m : Given) → read_from options words (state Positional g) ≡ Some m → ArentEmpty words × (give_positionals words g ≡ Some m)

-- ---- by the answers of tests

if_some : (b : Bool) (s : Option State) (k : State → Option Given) (m : Given) → option_and_then k (if b then s else None) ≡ Some m
    → (b ≡ true) × (option_and_then k s ≡ Some m)
if_some true s k m e = (refl, e)
if_some false s k m e = absurd (grind (arith, e))

unless_some : (b : Bool) (s : Option State) (k : State → Option Given) (m : Given) → option_and_then k (if b then None else s) ≡ Some m
    → (b ≡ false) × (option_and_then k s ≡ Some m)
unless_some true s k m e = absurd (grind (arith, e))
unless_some false s k m e = (refl, e)

map_some : (o : Option Given) (f : Given → State) (k : State → Option Given) (m : Given) → option_and_then k (option_map f o) ≡ Some m
    → (g : Given) × (o ≡ Some g) × (k (f g) ≡ Some m)
map_some None f k m e = absurd (grind (arith, e))
map_some (Some g) f k m e = (g, refl, e)

neither_is : (a b : Bool) → (a || not b) ≡ false → (a ≡ false) × (b ≡ true)
neither_is true b e = absurd (cc (e))
neither_is false true e = (refl, refl)
neither_is false false e = absurd (cc (e))

not_empty : (word : List ℕ) → is_empty word ≡ false → word ≢ []
not_empty word e same = let yes : is_empty word ≡ true = ap is_empty same in absurd (cc (yes, e))

-- ---- one more word

then_gives : (pieces : List Piece) (behind : Words) (o : Option Given) (g m : Given) → o ≡ Some g → give_all pieces behind g ≡ Some m
    → option_and_then (give_all pieces behind) o ≡ Some m
then_gives pieces behind o g m is e = ap (option_and_then (give_all pieces behind)) is ∙ e

value_line : (options words : Words) (name : List ℕ) (g m : Given) → is_option options name ≡ true → IsValueLine options words name g m
    → IsLine options ((dashes ++ name) ∷ words) g m
value_line options words name g m is line = record {
  pieces = Apart name line.value ∷ line.line.pieces;
  behind = line.line.behind;
  words_are = ap (λ (ws : Words). (dashes ++ name) ∷ ws) (line.words_are ∙ ap (λ (ws : Words). line.value ∷ ws) line.line.words_are);
  of_rule = ((is, line.of_rule), line.line.of_rule);
  behind_of_rule = line.line.behind_of_rule;
  gives = then_gives line.line.pieces (words_behind line.line.behind) (put name line.value g) line.after m line.put_is line.line.gives;
}

by_look : (options : Words) (word : List ℕ) (words : Words) → Reads options words → (l : Look) → IsWordOf l word → (g m : Given)
    → option_and_then (read_from options words) (step_any options l word g) ≡ Some m → IsLine options (word ∷ words) g m
by_look options word words reads Dashes is g m e =
    let further = reads.positional g m e in
    record {
      pieces = [];
      behind = Some words;
      words_are = ap (λ (w : List ℕ). w ∷ words) is;
      of_rule = tt;
      behind_of_rule = further.0;
      gives = further.1;
    }
by_look options word words reads (Named name None) is g m e =
    let step = if_some (is_option options name) (Some (state (Value name) g)) (read_from options words) m e in
    let line = value_line options words name g m step.0 (reads.named name g m step.1) in
    record {
      pieces = line.pieces;
      behind = line.behind;
      words_are = ap (λ (w : List ℕ). w ∷ words) is ∙ line.words_are;
      of_rule = line.of_rule;
      behind_of_rule = line.behind_of_rule;
      gives = line.gives;
    }
by_look options word words reads (Named name (Some value)) is g m e =
    let step = unless_some (is_empty value || not (is_option options name)) (option_map (state Any) (put name value g)) (read_from options words) m e in
    let tests = neither_is (is_empty value) (is_option options name) step.0 in
    let after = map_some (put name value g) (state Any) (read_from options words) m step.1 in
    let line = reads.any after.0 m after.2 in
    record {
      pieces = Joined name value ∷ line.pieces;
      behind = line.behind;
      words_are = ap₂ (λ (w : List ℕ) (ws : Words). w ∷ ws) is line.words_are;
      of_rule = ((tests.1, not_empty value tests.0), line.of_rule);
      behind_of_rule = line.behind_of_rule;
      gives = then_gives line.pieces (words_behind line.behind) (put name value g) after.0 m after.1 line.gives;
    }
by_look options word words reads Plain is g m e =
    let step = if_some (is_value word) (option_map (state Any) (put_positional word g)) (read_from options words) m e in
    let after = map_some (put_positional word g) (state Any) (read_from options words) m step.1 in
    let line = reads.any after.0 m after.2 in
    record {
      pieces = Alone word ∷ line.pieces;
      behind = line.behind;
      words_are = ap (λ (ws : Words). word ∷ ws) line.words_are;
      of_rule = (step.0, line.of_rule);
      behind_of_rule = line.behind_of_rule;
      gives = then_gives line.pieces (words_behind line.behind) (put_positional word g) after.0 m after.1 line.gives;
    }

by_value : (options : Words) (word : List ℕ) (words : Words) → Reads options words → (name : List ℕ) (g m : Given)
    → read_from options (word ∷ words) (state (Value name) g) ≡ Some m → IsValueLine options (word ∷ words) name g m
by_value options word words reads name g m e =
    let step = if_some (is_value word) (option_map (state Any) (put name word g)) (read_from options words) m e in
    let after = map_some (put name word g) (state Any) (read_from options words) m step.1 in
    record {
      value = word;
      rest = words;
      words_are = refl;
      of_rule = step.0;
      after = after.0;
      put_is = after.1;
      line = reads.any after.0 m after.2;
    }

by_positional : (options : Words) (word : List ℕ) (words : Words) → Reads options words → (g m : Given)
    → read_from options (word ∷ words) (state Positional g) ≡ Some m → ArentEmpty (word ∷ words) × (give_positionals (word ∷ words) g ≡ Some m)
by_positional options word words reads g m e =
    let step = unless_some (is_empty word) (option_map (state Positional) (put_positional word g)) (read_from options words) m e in
    let after = map_some (put_positional word g) (state Positional) (read_from options words) m step.1 in
    let further = reads.positional after.0 m after.2 in
    ((not_empty word step.0, further.0), ap (option_and_then (give_positionals words)) after.1 ∙ further.1)

pub words_read : (options words : Words) → Reads options words
words_read options [] = record {
  any = λ g m e. record { pieces = []; behind = None; words_are = refl; of_rule = tt; behind_of_rule = tt; gives = e };
  named = λ name g m e. absurd (grind (arith, e));
  positional = λ g m e. (tt, e);
}
words_read options (word ∷ words) = record {
  any = λ g m e. by_look options word words (words_read options words) (look word) (look-is word) g m e;
  named = λ name g m e. by_value options word words (words_read options words) name g m e;
  positional = λ g m e. by_positional options word words (words_read options words) g m e;
}
