-- What is read from the words of pieces, and the pieces of words that are read.
use Rattle.std.proofs.Common.{◌≡◌, ◌≢◌, ◌||◌, ◌++◌, ◌∙◌, ℕ, List, [], ◌∷◌, Bool, true, false, not, Option, Some, None, if◌then◌else◌, refl, ap, arith}
use Rattle.std.specs.List.{flat_map}
use Rattle.std.specs.Option.{option_and_then, option_map}
use Rattle.std.proofs.lemmas.Bool.Decides.{nat_tests}
use Rattle.std.proofs.lemmas.Grind.{common_steps}
use Rattle.command_line.specs.Given.{Given}
use Rattle.command_line.specs.Words.{Piece, Apart, Joined, Alone, AreOfRule, ArentEmpty, dashes, is_empty, is_name, is_option, is_value, with_dashes, words_behind, words_of}
use Rattle.command_line.specs.Reading.{Look, Any, Value, Positional, State, state, look, put, put_positional, read_from, step_any, step_by}
use Rattle.command_line.proofs.LookLemmas.{look-dashes, look-apart, look-joined, look-value}
use Rattle.command_line.proofs.GivingLemmas.{give_all, give_positionals}

abbrev pub Words : Type 0
Words = List (List ℕ)

-- ---- a step at a word of each form

yes : (b : Bool) (s : Option State) → b ≡ true → (if b then s else None) ≡ s
yes true s e = refl
yes false s e = absurd (cc (e))

no : (b : Bool) (s : Option State) → b ≡ false → (if b then None else s) ≡ s
no true s e = absurd (cc (e))
no false s e = refl

pub filled : (word : List ℕ) → word ≢ [] → is_empty word ≡ false
filled [] h = absurd (h refl)
filled (x ∷ xs) h = grind (arith, nat_tests, common_steps)

name_of_option : (options : Words) (name : List ℕ) → is_option options name ≡ true → is_name name ≡ true
name_of_option options name e = go (is_name name) refl
  where
    go : (b : Bool) → is_name name ≡ b → is_name name ≡ true
    go true t = t
    go false t = let bad : false ≡ true = (rw (t) at e) in absurd (cc (bad))

step_apart : (options : Words) (name : List ℕ) (g : Given) → is_option options name ≡ true
    → step_any options (look (dashes ++ name)) (dashes ++ name) g ≡ Some (state (Value name) g)
step_apart options name g e =
    ap (λ (l : Look). step_any options l (dashes ++ name) g) (look-apart name (name_of_option options name e))
    ∙ yes (is_option options name) (Some (state (Value name) g)) e

neither : (a b : Bool) → a ≡ false → b ≡ true → (a || not b) ≡ false
neither true b h k = absurd (cc (h))
neither false true h k = refl
neither false false h k = absurd (cc (k))

step_joined : (options : Words) (name value : List ℕ) (g : Given) → is_option options name ≡ true → value ≢ []
    → step_any options (look (dashes ++ (name ++ 61 ∷ value))) (dashes ++ (name ++ 61 ∷ value)) g ≡ option_map (state Any) (put name value g)
step_joined options name value g e h =
    ap (λ (l : Look). step_any options l (dashes ++ (name ++ 61 ∷ value)) g) (look-joined name value (name_of_option options name e))
    ∙ no (is_empty value || not (is_option options name)) (option_map (state Any) (put name value g))
    (neither (is_empty value) (is_option options name) (filled value h) e)

step_value : (options : Words) (name value : List ℕ) (g : Given) → is_value value ≡ true
    → step_by options (Value name) value g ≡ option_map (state Any) (put name value g)
step_value options name value g e = yes (is_value value) (option_map (state Any) (put name value g)) e

step_alone : (options : Words) (value : List ℕ) (g : Given) → is_value value ≡ true
    → step_any options (look value) value g ≡ option_map (state Any) (put_positional value g)
step_alone options value g e =
    ap (λ (l : Look). step_any options l value g) (look-value value e)
    ∙ yes (is_value value) (option_map (state Any) (put_positional value g)) e

step_positional : (options : Words) (value : List ℕ) (g : Given) → value ≢ []
    → step_by options Positional value g ≡ option_map (state Positional) (put_positional value g)
step_positional options value g h = no (is_empty value) (option_map (state Positional) (put_positional value g)) (filled value h)

then_map : (o : Option Given) (f : Given → State) (k : State → Option Given) (h : Given → Option Given) → ((g : Given) → k (f g) ≡ h g)
    → option_and_then k (option_map f o) ≡ option_and_then h o
then_map None f k h e = refl
then_map (Some g) f k h e = e g

-- ---- what is read from the words of pieces

read_positionals : (options behind : Words) → ArentEmpty behind → (g : Given) → read_from options behind (state Positional g) ≡ give_positionals behind g
read_positionals options [] h g = refl
read_positionals options (word ∷ words) h g =
    ap (option_and_then (read_from options words)) (step_positional options word g h.0)
    ∙ then_map (put_positional word g) (state Positional) (read_from options words) (give_positionals words) (λ k. read_positionals options words h.1 k)

pub read_pieces : (options : Words) (pieces : List Piece) → AreOfRule options pieces → (behind : Option Words) → ArentEmpty (words_behind behind) → (g : Given)
    → read_from options (flat_map words_of pieces ++ with_dashes behind) (state Any g) ≡ give_all pieces (words_behind behind) g
read_pieces options [] rule None h g = refl
read_pieces options [] rule (Some behind) h g =
    ap (λ (l : Look). option_and_then (read_from options behind) (step_any options l dashes g)) look-dashes ∙ read_positionals options behind h g
read_pieces options (Apart name value ∷ pieces) rule behind h g =
    let rest : Words = flat_map words_of pieces ++ with_dashes behind in
    ap (option_and_then (read_from options (value ∷ rest))) (step_apart options name g rule.0.0)
    ∙ ap (option_and_then (read_from options rest)) (step_value options name value g rule.0.1)
    ∙ then_map (put name value g) (state Any) (read_from options rest) (give_all pieces (words_behind behind)) (λ k. read_pieces options pieces rule.1 behind h k)
read_pieces options (Joined name value ∷ pieces) rule behind h g =
    let rest : Words = flat_map words_of pieces ++ with_dashes behind in
    ap (option_and_then (read_from options rest)) (step_joined options name value g rule.0.0 rule.0.1)
    ∙ then_map (put name value g) (state Any) (read_from options rest) (give_all pieces (words_behind behind)) (λ k. read_pieces options pieces rule.1 behind h k)
read_pieces options (Alone value ∷ pieces) rule behind h g =
    let rest : Words = flat_map words_of pieces ++ with_dashes behind in
    ap (option_and_then (read_from options rest)) (step_alone options value g rule.0)
    ∙ then_map (put_positional value g) (state Any) (read_from options rest) (give_all pieces (words_behind behind)) (λ k. read_pieces options pieces rule.1 behind h k)
