-- A text gone over piece by piece, up to where no piece stands: what it means, and what is left, are determined.
use Rattle.std.proofs.Common.{◌≡◌, ℕ, ◌<◌, Bool, true, List, [], ◌∷◌, ◌++◌, Option, Some, None, length, sym, ap, subst, refl, ◌∙◌, arith, append_assoc, length-append, zero, suc, ◌≤◌}
use Rattle.std.proofs.lemmas.Bool.{and_parts, and_from}
use Rattle.selectors.specs.Escapes.{Piece, plain, hex, quoted, broken, written, meant, all_written, all_meant, all_are}
use Rattle.selectors.specs.Reading.{joined, pieces_at}
use Rattle.selectors.proofs.EscapeLemmas.{some_pair, none_some}

pub data Spelled (at : List ℕ → Option (List ℕ × List ℕ)) : List ℕ → List ℕ → List ℕ → Type 0 where
  none : (rest : List ℕ) → at rest ≡ None → Spelled at rest [] rest
  more : (text part middle value rest : List ℕ) → at text ≡ Some (part, middle) → Spelled at middle value rest → Spelled at text (part ++ value) rest

-- what a piece that is read is
pub record PieceIs (is_piece : Piece → List ℕ → Bool) (text part rest : List ℕ) : Type 0 where
  pub piece : Piece
  pub is : is_piece piece rest ≡ true
  pub text_is : text ≡ written piece ++ rest
  pub part_is : part ≡ meant piece

abbrev pub Reads : (List ℕ → Option (List ℕ × List ℕ)) → (Piece → List ℕ → Bool) → Type 0
Reads at is_piece = (text part rest : List ℕ) → at text ≡ Some (part, rest) → PieceIs is_piece text part rest

abbrev pub Takes : (List ℕ → Option (List ℕ × List ℕ)) → (Piece → List ℕ → Bool) → Type 0
Takes at is_piece = (piece : Piece) (after : List ℕ) → is_piece piece after ≡ true → at (written piece ++ after) ≡ Some (meant piece, after)

-- ---- one meaning and one rest

pub spelled_once : (at : List ℕ → Option (List ℕ × List ℕ)) (text value rest other left : List ℕ) → Spelled at text value rest → Spelled at text other left → (value ≡ other) × (rest ≡ left)
spelled_once at text value rest other left (none r e) (none s f) = (refl, refl)
spelled_once at text value rest other left (none r e) (more t part middle v s f onwards) = absurd (none_some _ (sym e ∙ f))
spelled_once at text value rest other left (more t part middle v s f onwards) (none r e) = absurd (none_some _ (sym e ∙ f))
spelled_once at text value rest other left (more t part middle v s f onwards) (more t' part' middle' v' s' f' onwards') =
    let p : (part ≡ part') × (middle ≡ middle') = some_pair part part' middle middle' (sym f ∙ f') in
    let q : (v ≡ v') × (s ≡ s') = spelled_once at middle v s v' s' onwards (subst (λ m. Spelled at m v' s') (sym p.1) onwards') in
    (ap (λ x. x ++ v) p.0 ∙ ap (λ y. part' ++ y) q.0, q.1)

-- ---- pieces, and back

pub from_pieces : (at : List ℕ → Option (List ℕ × List ℕ)) (is_piece : Piece → List ℕ → Bool) (takes : Takes at is_piece) (pieces : List Piece) (rest : List ℕ)
    → all_are is_piece pieces rest ≡ true → at rest ≡ None → Spelled at (all_written pieces ++ rest) (all_meant pieces) rest
from_pieces at is_piece takes [] rest each ends = none rest ends
from_pieces at is_piece takes (piece ∷ pieces) rest each ends =
    let p : (is_piece piece (all_written pieces ++ rest) ≡ true) × (all_are is_piece pieces rest ≡ true) = and_parts _ _ each in
    let whole : (written piece ++ all_written pieces) ++ rest ≡ written piece ++ (all_written pieces ++ rest) = append_assoc (written piece) (all_written pieces) rest in
    more _ (meant piece) (all_written pieces ++ rest) (all_meant pieces) rest (ap at whole ∙ takes piece (all_written pieces ++ rest) p.0) (from_pieces at is_piece takes pieces rest p.1 ends)

pub record Pieces (at : List ℕ → Option (List ℕ × List ℕ)) (is_piece : Piece → List ℕ → Bool) (text value rest : List ℕ) : Type 0 where
  pub pieces : List Piece
  pub each : all_are is_piece pieces rest ≡ true
  pub text_is : text ≡ all_written pieces ++ rest
  pub value_is : value ≡ all_meant pieces
  pub ends : at rest ≡ None

pub to_pieces : (at : List ℕ → Option (List ℕ × List ℕ)) (is_piece : Piece → List ℕ → Bool) (reads : Reads at is_piece) (text value rest : List ℕ) → Spelled at text value rest → Pieces at is_piece text value rest
to_pieces at is_piece reads text value rest (none r e) = record { pieces = []; each = refl; text_is = refl; value_is = refl; ends = e }
to_pieces at is_piece reads text value rest (more t part middle v r f onwards) =
    let first : PieceIs is_piece t part middle = reads t part middle f in
    let others : Pieces at is_piece middle v r = to_pieces at is_piece reads middle v r onwards in
    record {
      pieces = first.piece ∷ others.pieces;
      each = and_from _ _ (subst (λ m. is_piece first.piece m ≡ true) others.text_is first.is) others.each;
      text_is = first.text_is ∙ ap (λ m. written first.piece ++ m) others.text_is ∙ sym (append_assoc (written first.piece) (all_written others.pieces) r);
      value_is = ap (λ x. x ++ v) first.part_is ∙ ap (λ y. meant first.piece ++ y) others.value_is;
      ends = others.ends;
    }

-- each piece takes a character at least
pub piece_shortens : (is_piece : Piece → List ℕ → Bool) (text part rest : List ℕ) → PieceIs is_piece text part rest → length rest < length text
piece_shortens is_piece text part rest is = rw is.text_is (longer is.piece)
  where
    longer : (piece : Piece) → length rest < length (written piece ++ rest)
    longer (plain c) = omega arith
    longer (hex digits white) = omega (arith, length-append (digits ++ white) rest)
    longer (quoted c) = omega arith
    longer (broken end) = omega (arith, length-append end rest)

-- ---- piece after piece, as many as the text is long

none_at : (at : List ℕ → Option (List ℕ × List ℕ)) (text : List ℕ) (found : Option (List ℕ × List ℕ)) → ((part rest : List ℕ) → at text ≡ Some (part, rest) → length rest < length text) → length text ≤ 0 → at text ≡ found → at text ≡ None
none_at at text None shortens short is = is
none_at at text (Some x) shortens short is = let h : length x.1 < length text = shortens x.0 x.1 is in absurd (omega arith)

pub pieces_spelled : (at : List ℕ → Option (List ℕ × List ℕ)) (shortens : (text part rest : List ℕ) → at text ≡ Some (part, rest) → length rest < length text) (most : ℕ) (text : List ℕ) → length text ≤ most
    → Spelled at text (pieces_at at most text).0 (pieces_at at most text).1
pieces_spelled at shortens zero text short = none text (none_at at text (at text) (shortens text) short refl)
pieces_spelled at shortens (suc most) text short = step (λ rest h. pieces_spelled at shortens most rest h) (at text) refl
  where
    step : ((rest : List ℕ) → length rest ≤ most → Spelled at rest (pieces_at at most rest).0 (pieces_at at most rest).1)
        → (found : Option (List ℕ × List ℕ)) → at text ≡ found → Spelled at text (joined found (pieces_at at most) text).0 (joined found (pieces_at at most) text).1
    step onwards None is = none text is
    step onwards (Some x) is = let h : length x.1 < length text = shortens text x.0 x.1 is in more text x.0 x.1 _ _ is (onwards x.1 (omega arith))
