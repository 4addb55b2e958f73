-- An identifier is a start that serves, and pieces up to where no piece of a name stands.
use Rattle.std.proofs.Common.{◌≡◌, ◌≢◌, ℕ, ◌<◌, true, false, cond, not, List, [], ◌∷◌, ◌++◌, Some, length, sym, ap, subst, refl, ◌∙◌, arith, append_assoc, Option, None}
use Rattle.std.specs.Prelude.{MatchOption, ◌&&◌, ◌||◌, ◌==◌}
use Rattle.std.specs.Char.{is_ascii_digit}
use Rattle.std.proofs.lemmas.Bool.{and_parts, and_from, eqb-true, or_parts, or_from, not-true, true_from_ne_false, false≢true}
use Rattle.selectors.specs.Characters.{begins}
use Rattle.selectors.specs.Escapes.{Piece, written, is_of_name, all_written, all_meant, all_are}
use Rattle.selectors.specs.Names.{begins_name, begins_number, NameIs, IdentifierIs}
use Rattle.selectors.specs.Reading.{name_piece_at, starts_identifier, pieces_at, identifier_at}
use Rattle.selectors.proofs.Fronts.{split}
use Rattle.selectors.proofs.EscapeLemmas.{none_some, some_pair}
use Rattle.selectors.proofs.Spelled.{Spelled, none, more, Pieces, spelled_once, from_pieces, to_pieces, piece_shortens, pieces_spelled}
use Rattle.selectors.proofs.NamePieces.{name_reads, name_takes, name_ends, ends_name}

-- ---- from the reading

starts_begins : (text : List ℕ) → starts_identifier text ≡ true → begins_name text ≡ true
starts_begins [] starts = starts
starts_begins (c ∷ text) starts = split (c == 45) (λ b. cond b (begins_name text && not (begins is_ascii_digit text)) (begins_name (c ∷ text) && not (is_ascii_digit c)) ≡ true → begins_name (c ∷ text) ≡ true)
    (λ e _. rw (eqb-true c 45 e) refl) (λ _ h. (and_parts _ _ h).0) starts

starts_no_number : (text : List ℕ) → starts_identifier text ≡ true → begins_number text ≡ false
starts_no_number [] starts = refl
starts_no_number (c ∷ text) starts = split (c == 45)
    (λ b. (c == 45) ≡ b → cond b (begins_name text && not (begins is_ascii_digit text)) (begins_name (c ∷ text) && not (is_ascii_digit c)) ≡ true → (is_ascii_digit c || (b && begins is_ascii_digit text)) ≡ false)
    (λ _ e h. rw (eqb-true c 45 e) (not-true _ (and_parts _ _ h).1)) (λ _ _ h. or_from _ _ (not-true _ (and_parts _ _ h).1) refl) refl starts

starts_no_dash : (text rest : List ℕ) → starts_identifier text ≡ true → begins_name rest ≡ false → text ≢ 45 ∷ rest
starts_no_dash text rest starts ends same =
    let h : (begins_name rest && not (begins is_ascii_digit rest)) ≡ true = subst (λ t. starts_identifier t ≡ true) same starts in
    false≢true (sym ends ∙ (and_parts _ _ h).0)

some_pieces : (pieces : List Piece) (text rest : List ℕ) → begins_name text ≡ true → begins_name rest ≡ false → text ≡ all_written pieces ++ rest → 0 < length pieces
some_pieces [] text rest starts ends same = absurd (false≢true (sym ends ∙ ap begins_name (sym same) ∙ starts))
some_pieces (piece ∷ pieces) text rest starts ends same = omega arith

pub identifier_from : (text value rest : List ℕ) → starts_identifier text ≡ true → Spelled name_piece_at text value rest → IdentifierIs text value rest
identifier_from text value rest starts spelled =
    let p : Pieces name_piece_at is_of_name text value rest = to_pieces name_piece_at is_of_name name_reads text value rest spelled in
    let ends : begins_name rest ≡ false = ends_name rest p.ends in
    record {
      name = record { pieces = p.pieces; some = some_pieces p.pieces text rest (starts_begins text starts) ends p.text_is; each = p.each; whole = ends; text_is = p.text_is; value_is = p.value_is };
      no_number = starts_no_number text starts;
      no_dash = starts_no_dash text rest starts ends;
    }

-- ---- and back

pub name_spelled : (text value rest : List ℕ) → NameIs text value rest → Spelled name_piece_at text value rest
name_spelled text value rest name = subst (λ v. Spelled name_piece_at text v rest) (sym name.value_is)
    (subst (λ t. Spelled name_piece_at t (all_meant name.pieces) rest) (sym name.text_is) (from_pieces name_piece_at is_of_name name_takes name.pieces rest name.each (name_ends rest name.whole)))

first_piece : (pieces : List Piece) (rest : List ℕ) → 0 < length pieces → all_are is_of_name pieces rest ≡ true → begins_name (all_written pieces ++ rest) ≡ true
first_piece [] rest some each = absurd (omega arith)
first_piece (piece ∷ pieces) rest some each =
    let is : is_of_name piece (all_written pieces ++ rest) ≡ true = (and_parts _ _ each).0 in
    let whole : (written piece ++ all_written pieces) ++ rest ≡ written piece ++ (all_written pieces ++ rest) = append_assoc (written piece) (all_written pieces) rest in
    true_from_ne_false _ (λ ends. none_some _ (sym (name_ends (all_written (piece ∷ pieces) ++ rest) ends) ∙ (ap name_piece_at whole ∙ name_takes piece (all_written pieces ++ rest) is)))

starts_from : (text value rest : List ℕ) → begins_name text ≡ true → begins_number text ≡ false → text ≢ 45 ∷ rest → Spelled name_piece_at text value rest → starts_identifier text ≡ true
starts_from [] value rest begins_one no_number no_dash spelled = begins_one
starts_from (c ∷ text) value rest begins_one no_number no_dash spelled =
    let p : (is_ascii_digit c ≡ false) × (((c == 45) && begins is_ascii_digit text) ≡ false) = or_parts _ _ no_number in
    split (c == 45) (λ b. (c == 45) ≡ b → (b && begins is_ascii_digit text) ≡ false → cond b (begins_name text && not (begins is_ascii_digit text)) (begins_name (c ∷ text) && not (is_ascii_digit c)) ≡ true)
    (λ _ e h. and_from _ _ (true_from_ne_false _ (λ ends. no_dash (dash_alone e ends))) (ap not h))
    (λ _ _ _. and_from _ _ begins_one (ap not p.0)) refl p.1
  where
    dash_alone : (c == 45) ≡ true → begins_name text ≡ false → c ∷ text ≡ 45 ∷ rest
    dash_alone e ends =
        let first : name_piece_at (c ∷ text) ≡ Some (c ∷ [], text) = rw (eqb-true c 45 e) refl in
        let alone : Spelled name_piece_at (c ∷ text) (c ∷ []) text = more (c ∷ text) (c ∷ []) text [] text first (none text (name_ends text ends)) in
        let same : (c ∷ [] ≡ value) × (text ≡ rest) = spelled_once name_piece_at (c ∷ text) (c ∷ []) text value rest alone spelled in
        ap (λ d. d ∷ text) (eqb-true c 45 e) ∙ ap (λ t. 45 ∷ t) same.1

pub identifier_to : (text value rest : List ℕ) → IdentifierIs text value rest → (starts_identifier text ≡ true) × Spelled name_piece_at text value rest
identifier_to text value rest is =
    let spelled : Spelled name_piece_at text value rest = name_spelled text value rest is.name in
    let begins_one : begins_name text ≡ true = ap begins_name is.name.text_is ∙ first_piece is.name.pieces rest is.name.some is.name.each in
    (starts_from text value rest begins_one is.no_number is.no_dash spelled, spelled)

-- a text begins with one identifier at most
pub one_identifier : (text value rest other left : List ℕ) → IdentifierIs text value rest → IdentifierIs text other left → (value ≡ other) × (rest ≡ left)
one_identifier text value rest other left one two =
    spelled_once name_piece_at text value rest other left (identifier_to text value rest one).1 (identifier_to text other left two).1

-- ---- the reading function

name_shortens : (text part rest : List ℕ) → name_piece_at text ≡ Some (part, rest) → length rest < length text
name_shortens text part rest found = piece_shortens is_of_name text part rest (name_reads text part rest found)

pub identifier_at_is : (text value rest : List ℕ) → identifier_at text ≡ Some (value, rest) → IdentifierIs text value rest
unfolding identifier_at
identifier_at_is text value rest found = split (starts_identifier text)
    (λ b. starts_identifier text ≡ b → cond {A = Option (List ℕ × List ℕ)} b (Some (pieces_at name_piece_at (length text) text)) None ≡ Some (value, rest) → IdentifierIs text value rest)
    (λ _ starts same. let p : ((pieces_at name_piece_at (length text) text).0 ≡ value) × ((pieces_at name_piece_at (length text) text).1 ≡ rest) = some_pair _ _ _ _ same in
    subst (λ v. IdentifierIs text v rest) p.0 (subst (λ r. IdentifierIs text (pieces_at name_piece_at (length text) text).0 r) p.1
    (identifier_from text _ _ starts (pieces_spelled name_piece_at name_shortens (length text) text (omega arith)))))
    (λ _ _ bad. absurd (none_some _ bad)) refl found

pub is_identifier_at : (text value rest : List ℕ) → IdentifierIs text value rest → identifier_at text ≡ Some (value, rest)
unfolding identifier_at
is_identifier_at text value rest is =
    let p : (starts_identifier text ≡ true) × Spelled name_piece_at text value rest = identifier_to text value rest is in
    let q : ((pieces_at name_piece_at (length text) text).0 ≡ value) × ((pieces_at name_piece_at (length text) text).1 ≡ rest) =
    spelled_once name_piece_at text _ _ value rest (pieces_spelled name_piece_at name_shortens (length text) text (omega arith)) p.1 in
    ap (λ b. cond {A = Option (List ℕ × List ℕ)} b (Some (pieces_at name_piece_at (length text) text)) None) p.0 ∙ ap (λ v. Some (v, (pieces_at name_piece_at (length text) text).1)) q.0 ∙ ap (λ r. Some (value, r)) q.1

abbrev pub ReadsIdentifier : List ℕ → Option (List ℕ × List ℕ) → Type 0
ReadsIdentifier text read = MatchOption read ((value rest : List ℕ) → IdentifierIs text value rest → ⊥) (λ x. IdentifierIs text x.0 x.1)

none_identifier : (text : List ℕ) (found : Option (List ℕ × List ℕ)) → identifier_at text ≡ found → ((value rest : List ℕ) → IdentifierIs text value rest → ⊥) → None ≡ found
none_identifier text None is never = refl
none_identifier text (Some x) is never = absurd (never x.0 x.1 (identifier_at_is text x.0 x.1 is))

-- what answers by the relation answers by the function
pub identifier_same : (text : List ℕ) (read : Option (List ℕ × List ℕ)) → ReadsIdentifier text read → read ≡ identifier_at text
identifier_same text None never = none_identifier text (identifier_at text) refl never
identifier_same text (Some x) is = sym (is_identifier_at text x.0 x.1 is)
