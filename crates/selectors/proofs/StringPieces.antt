-- Reading a piece of a string answers exactly what the pieces of a string say.
use Rattle.std.proofs.Common.{◌≡◌, ℕ, true, false, cond, not, List, [], ◌∷◌, ◌++◌, Option, Some, None, sym, ap, subst, refl, ◌∙◌}
use Rattle.std.specs.Prelude.{◌&&◌, ◌==◌}
use Rattle.std.specs.List.{list_all}
use Rattle.std.specs.Char.{is_ascii_hexdigit}
use Rattle.std.proofs.lemmas.Bool.{and_parts, and_from, eqb-true, not-true, false_from_ne_true, false≢true}
use Rattle.selectors.specs.Characters.{is_break}
use Rattle.selectors.specs.Escapes.{plain, hex, quoted, broken, is_hex, takes_digits, takes_white, is_of_string}
use Rattle.selectors.specs.Reading.{escape_at, single, after_one, string_escape_at, string_piece_at}
use Rattle.selectors.proofs.Fronts.{split}
use Rattle.selectors.proofs.Blanks.{EndIs, end_is, Broken, end_takes}
use Rattle.selectors.proofs.EscapeLemmas.{EscapeIs, of_hex, of_quoted, some_pair, none_some, escape_is, escape_takes_hex, escape_takes_quoted, break_no_hex}
use Rattle.selectors.proofs.Spelled.{PieceIs, Reads, Takes}
use Rattle.selectors.proofs.NamePieces.{SingleIs, single_is}

of_escape : (quote : ℕ) (text part rest : List ℕ) (c : ℕ) → EscapeIs text c rest → c ∷ [] ≡ part → PieceIs (is_of_string quote) (92 ∷ text) part rest
of_escape quote text part rest c (of_hex digits white is whole value) same =
    record { piece = hex digits white; is = is; text_is = ap (λ t. 92 ∷ t) whole; part_is = sym same ∙ ap (λ x. x ∷ []) (sym value) }
of_escape quote text part rest c (of_quoted is whole) same =
    record { piece = quoted c; is = is; text_is = ap (λ t. 92 ∷ t) whole; part_is = sym same }

of_end : (quote c : ℕ) (text part rest : List ℕ) → is_break c ≡ true → [] ≡ part → after_one c text ≡ rest → PieceIs (is_of_string quote) (92 ∷ c ∷ text) part rest
of_end quote c text part rest breaks same goes_on =
    let e : EndIs (c ∷ text) rest = subst (λ r. EndIs (c ∷ text) r) goes_on (end_is c text breaks) in
    record { piece = broken e.end; is = e.is; text_is = ap (λ t. 92 ∷ t) e.whole; part_is = sym same }

escape_reads : (quote : ℕ) (text part rest : List ℕ) → string_escape_at text ≡ Some (part, rest) → PieceIs (is_of_string quote) (92 ∷ text) part rest
escape_reads quote [] part rest found = absurd (none_some _ found)
escape_reads quote (c ∷ text) part rest found = split (is_break c)
    (λ b. is_break c ≡ b → cond {A = Option (List ℕ × List ℕ)} b (Some ([], after_one c text)) (single (escape_at (c ∷ text))) ≡ Some (part, rest) → PieceIs (is_of_string quote) (92 ∷ c ∷ text) part rest)
    (λ _ breaks same. let p : ([] ≡ part) × (after_one c text ≡ rest) = some_pair [] part (after_one c text) rest same in of_end quote c text part rest breaks p.0 p.1)
    (λ _ _ same. let s : SingleIs (escape_at (c ∷ text)) part rest = single_is _ part rest same in of_escape quote (c ∷ text) part rest s.c (escape_is (c ∷ text) s.c rest s.found_is) s.part_is) refl found

pub string_reads : (quote : ℕ) → Reads (string_piece_at quote) (is_of_string quote)
string_reads quote [] part rest found = absurd (none_some _ found)
string_reads quote (c ∷ text) part rest found = split (c == quote)
    (λ b. cond {A = Option (List ℕ × List ℕ)} b None (cond (c == 92) (string_escape_at text) (cond (is_break c) None (Some (c ∷ [], text)))) ≡ Some (part, rest) → PieceIs (is_of_string quote) (c ∷ text) part rest)
    (λ _ bad. absurd (none_some _ bad))
    (λ apart same. split (c == 92)
    (λ b. cond {A = Option (List ℕ × List ℕ)} b (string_escape_at text) (cond (is_break c) None (Some (c ∷ [], text))) ≡ Some (part, rest) → PieceIs (is_of_string quote) (c ∷ text) part rest)
    (λ e back. subst (λ x. PieceIs (is_of_string quote) (x ∷ text) part rest) (sym (eqb-true c 92 e)) (escape_reads quote text part rest back))
    (λ e back. split (is_break c)
    (λ b. cond {A = Option (List ℕ × List ℕ)} b None (Some (c ∷ [], text)) ≡ Some (part, rest) → PieceIs (is_of_string quote) (c ∷ text) part rest)
    (λ _ bad. absurd (none_some _ bad))
    (λ f good. let p : (c ∷ [] ≡ part) × (text ≡ rest) = some_pair (c ∷ []) part text rest good in
    record { piece = plain c; is = and_from _ _ (and_from _ _ (ap not apart) (ap not e)) (ap not f); text_is = ap (λ t. c ∷ t) p.1; part_is = sym p.0 }) back) same) found

hex_no_break : (c : ℕ) → is_ascii_hexdigit c ≡ true → is_break c ≡ false
hex_no_break c is = false_from_ne_true _ (λ breaks. false≢true (sym (break_no_hex c breaks) ∙ is))

hex_takes : (digits white after : List ℕ) → is_hex digits white after ≡ true → string_escape_at ((digits ++ white) ++ after) ≡ single (escape_at ((digits ++ white) ++ after))
hex_takes [] white after is = absurd (false≢true is)
hex_takes (d ∷ digits) white after is =
    let p : (takes_digits (d ∷ digits) (white ++ after) ≡ true) × (takes_white white after ≡ true) = and_parts _ _ is in
    let each : list_all is_ascii_hexdigit (d ∷ digits) ≡ true = (and_parts _ (list_all is_ascii_hexdigit (d ∷ digits)) (and_parts _ _ p.0).0).1 in
    let first : is_ascii_hexdigit d ≡ true = (and_parts _ (list_all is_ascii_hexdigit digits) each).0 in
    rw (hex_no_break d first) refl

quoted_takes : (c : ℕ) (after : List ℕ) → is_break c ≡ false → string_escape_at (c ∷ after) ≡ single (escape_at (c ∷ after))
quoted_takes c after same = ap (λ b. cond {A = Option (List ℕ × List ℕ)} b (Some ([], after_one c after)) (single (escape_at (c ∷ after)))) same

-- in quotes other than a backslash
pub string_takes : (quote : ℕ) → (92 == quote) ≡ false → Takes (string_piece_at quote) (is_of_string quote)
string_takes quote apart (plain c) after is =
    let p : ((not (c == quote) && not (c == 92)) ≡ true) × (not (is_break c) ≡ true) = and_parts _ _ is in
    let q : (not (c == quote) ≡ true) × (not (c == 92) ≡ true) = and_parts _ _ p.0 in
    rw (not-true _ q.0, not-true _ q.1, not-true _ p.1) refl
string_takes quote apart (hex digits white) after is = rw apart (hex_takes digits white after is ∙ ap single (escape_takes_hex digits white after is))
string_takes quote apart (quoted c) after is =
    let p : (not (is_ascii_hexdigit c) ≡ true) × (not (is_break c) ≡ true) = and_parts _ _ is in
    rw apart (quoted_takes c after (not-true _ p.1) ∙ ap single (escape_takes_quoted c after is))
string_takes quote apart (broken end) after is = let b : Broken (end ++ after) after = end_takes end after is in
    rw apart (ap string_escape_at b.whole ∙ broken_takes b.first b.more after b.breaks b.goes_on)
  where
    broken_takes : (c : ℕ) (text after : List ℕ) → is_break c ≡ true → after_one c text ≡ after → string_escape_at (c ∷ text) ≡ Some ([], after)
    broken_takes c text after breaks goes_on = rw (breaks, goes_on) refl
