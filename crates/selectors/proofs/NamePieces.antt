-- Reading a piece of a name answers exactly what the pieces of a name say.
use Rattle.std.proofs.Common.{◌≡◌, ℕ, false, cond, not, List, [], ◌∷◌, Option, Some, None, sym, ap, subst, refl, ◌∙◌}
use Rattle.std.specs.Prelude.{◌&&◌, ◌||◌, ◌==◌}
use Rattle.std.proofs.lemmas.Bool.{eqb-true, or_parts}
use Rattle.selectors.specs.Characters.{begins, is_break, is_name_character}
use Rattle.selectors.specs.Escapes.{plain, hex, quoted, broken, is_of_name}
use Rattle.selectors.specs.Names.{begins_name}
use Rattle.selectors.specs.Reading.{escape_at, single, name_piece_at}
use Rattle.selectors.proofs.Fronts.{split}
use Rattle.selectors.proofs.EscapeLemmas.{EscapeIs, of_hex, of_quoted, some_pair, escape_is, escape_takes_hex, escape_takes_quoted, escape_none, none_escape, none_some}
use Rattle.selectors.proofs.Spelled.{PieceIs, Reads, Takes}

-- what single answers comes from what it is given
pub record SingleIs (found : Option (ℕ × List ℕ)) (part rest : List ℕ) : Type 0 where
  pub c : ℕ
  pub found_is : found ≡ Some (c, rest)
  pub part_is : c ∷ [] ≡ part

pub single_is : (found : Option (ℕ × List ℕ)) (part rest : List ℕ) → single found ≡ Some (part, rest) → SingleIs found part rest
single_is None part rest is = cc
single_is (Some x) part rest is = let p : (x.0 ∷ [] ≡ part) × (x.1 ≡ rest) = some_pair (x.0 ∷ []) part x.1 rest is in
    record { c = x.0; found_is = ap (λ r. Some (x.0, r)) p.1; part_is = p.0 }

name_escape : (text part rest : List ℕ) (c : ℕ) → EscapeIs text c rest → c ∷ [] ≡ part → PieceIs is_of_name (92 ∷ text) part rest
name_escape text part rest c (of_hex digits white is whole value) same =
    record { piece = hex digits white; is = is; text_is = ap (λ t. 92 ∷ t) whole; part_is = sym same ∙ ap (λ x. x ∷ []) (sym value) }
name_escape text part rest c (of_quoted is whole) same =
    record { piece = quoted c; is = is; text_is = ap (λ t. 92 ∷ t) whole; part_is = sym same }

pub name_reads : Reads name_piece_at is_of_name
name_reads [] part rest found = cc
name_reads (c ∷ text) part rest found = split (is_name_character c)
    (λ b. cond b (Some (c ∷ [], text)) (cond (c == 92) (single (escape_at text)) None) ≡ Some (part, rest) → PieceIs is_of_name (c ∷ text) part rest)
    (λ e same. let p : (c ∷ [] ≡ part) × (text ≡ rest) = some_pair (c ∷ []) part text rest same in record { piece = plain c; is = e; text_is = ap (λ t. c ∷ t) p.1; part_is = sym p.0 })
    (λ _ same. split (c == 92) (λ b. cond b (single (escape_at text)) None ≡ Some (part, rest) → PieceIs is_of_name (c ∷ text) part rest)
    (λ f found. let s : SingleIs (escape_at text) part rest = single_is _ part rest found in
    subst (λ x. PieceIs is_of_name (x ∷ text) part rest) (sym (eqb-true c 92 f)) (name_escape text part rest s.c (escape_is text s.c rest s.found_is) s.part_is))
    (λ _ bad. absurd (none_some _ bad)) same) found

pub name_takes : Takes name_piece_at is_of_name
name_takes (plain c) after is = rw is refl
name_takes (hex digits white) after is = ap single (escape_takes_hex digits white after is)
name_takes (quoted c) after is = ap single (escape_takes_quoted c after is)
name_takes (broken end) after is = cc

-- ---- where a name ends

pub single_none : (found : Option (ℕ × List ℕ)) → single found ≡ None → found ≡ None
single_none None none = refl
single_none (Some x) none = absurd (none_some _ (sym none))

pub name_ends : (rest : List ℕ) → begins_name rest ≡ false → name_piece_at rest ≡ None
name_ends [] ends = refl
name_ends (c ∷ text) ends = let p : (is_name_character c ≡ false) × (((c == 92) && begins (λ d. not (is_break d)) text) ≡ false) = or_parts _ _ ends in
    rw p.0 (split (c == 92) (λ b. (b && begins (λ d. not (is_break d)) text) ≡ false → cond b (single (escape_at text)) None ≡ None) (λ _ h. ap single (escape_none text h)) (λ _ _. refl) p.1)

pub ends_name : (rest : List ℕ) → name_piece_at rest ≡ None → begins_name rest ≡ false
ends_name [] none = refl
ends_name (c ∷ text) none = split (is_name_character c)
    (λ b. cond b (Some (c ∷ [], text)) (cond (c == 92) (single (escape_at text)) None) ≡ None → (b || ((c == 92) && begins (λ d. not (is_break d)) text)) ≡ false)
    (λ _ bad. absurd (none_some _ (sym bad)))
    (λ _ stops. split (c == 92) (λ b. cond b (single (escape_at text)) None ≡ None → (b && begins (λ d. not (is_break d)) text) ≡ false)
    (λ _ h. none_escape text (single_none _ h)) (λ _ _. refl) stops) none
