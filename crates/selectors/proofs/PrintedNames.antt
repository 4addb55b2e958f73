-- What is printed of a name or a text reads as it.
use Rattle.std.proofs.Common.{◌≡◌, ◌≢◌, lit<, ℕ, ◌+◌, ◌<◌, ◌≤◌, true, false, cond, not, List, [], ◌∷◌, ◌++◌, length, sym, ap, subst, refl, ◌∙◌, arith, append_assoc, append-nil, length-append}
use Rattle.std.specs.Prelude.{nat_le, ◌||◌, ◌==◌, map}
use Rattle.std.specs.List.{flat_map}
use Rattle.std.specs.Char.{is_ascii_digit}
use Rattle.std.proofs.lemmas.Bool.{and_parts, and_from, or_parts, false≢true, not-true, eqb-true, eqb-false, leb-true, leb-false}
use Rattle.std.proofs.lemmas.Bool.Decides.{nat_tests}
use Rattle.selectors.specs.Characters.{begins, is_break, is_name_character}
use Rattle.selectors.specs.Escapes.{Piece, plain, written, is_of_name, is_of_string, all_written}
use Rattle.selectors.specs.Names.{begins_name, begins_number, IdentifierIs, StringIs}
use Rattle.selectors.specs.Texted.{is_text, is_name}
use Rattle.selectors.specs.Printing.{escaped, name_written, first_written, after_dash, printed_identifier, string_written, printed_string}
use Rattle.selectors.proofs.Fronts.{split}
use Rattle.selectors.proofs.StringLemmas.{heads_same}
use Rattle.selectors.proofs.PrintedPieces.{IsSound, AllSound, all_sound, Good, hexed, hexed_fits, hexed_means, GoodList, goods_each, goods_mean, mapped_good, mapped_written}

-- ---- the pieces of an identifier

hexed_good : (c : ℕ) → IsSound c → c < 128 → Good is_of_name (hexed c) c
hexed_good c is low = record { fits = hexed_fits c is low; means = hexed_means c is low }

-- what is no character of a name is below U+0080
other_low : (c : ℕ) → is_name_character c ≡ false → c < 128
other_low c e = leb-false 128 c (or_parts _ (nat_le 128 c) e).1

digit_low : (c : ℕ) → is_ascii_digit c ≡ true → c < 128
digit_low c e = let h : c ≤ 57 = leb-true c 57 (and_parts (nat_le 48 c) (nat_le c 57) e).1 in omega arith

special_low : (c : ℕ) → ((c == 34) || (c == 92) || is_break c) ≡ true → c < 128
special_low c e = grind (arith, nat_tests)

name_piece : ℕ → Piece
name_piece c = cond (is_name_character c) (plain c) (hexed c)

first_piece : ℕ → Piece
first_piece c = cond (is_ascii_digit c) (hexed c) (name_piece c)

name_good : (c : ℕ) → IsSound c → Good is_of_name (name_piece c) c
unfolding name_piece
name_good c is = split (is_name_character c) (λ b. is_name_character c ≡ b → Good is_of_name (cond b (plain c) (hexed c)) c)
    (λ _ e. record { fits = λ after. e; means = refl }) (λ _ e. hexed_good c is (other_low c e)) refl

name_form : (c : ℕ) → name_written c ≡ written (name_piece c)
unfolding name_piece
name_form c = split (is_name_character c) (λ b. cond b (c ∷ []) (escaped c) ≡ written (cond b (plain c) (hexed c))) (λ _. refl) (λ _. refl)

first_good : (c : ℕ) → IsSound c → Good is_of_name (first_piece c) c
unfolding first_piece
first_good c is = split (is_ascii_digit c) (λ b. is_ascii_digit c ≡ b → Good is_of_name (cond b (hexed c) (name_piece c)) c) (λ _ e. hexed_good c is (digit_low c e)) (λ _ _. name_good c is) refl

first_form : (c : ℕ) → first_written c ≡ written (first_piece c)
unfolding first_piece
first_form c = split (is_ascii_digit c) (λ b. cond b (escaped c) (name_written c) ≡ written (cond b (hexed c) (name_piece c))) (λ _. refl) (λ _. name_form c)

dash_pieces : List ℕ → List Piece
dash_pieces [] = hexed 45 ∷ []
dash_pieces (c ∷ text) = plain 45 ∷ first_piece c ∷ map name_piece text

identifier_pieces : List ℕ → List Piece
identifier_pieces [] = []
identifier_pieces (c ∷ text) = cond (c == 45) (dash_pieces text) (first_piece c ∷ map name_piece text)

dash_good : (text : List ℕ) → IsSound 45 → AllSound text → GoodList is_of_name (dash_pieces text) (45 ∷ text)
unfolding dash_pieces
dash_good [] is sound = (hexed_good 45 is (lit< tt), tt)
dash_good (c ∷ text) is sound = (record { fits = λ after. refl; means = refl }, (first_good c sound.0, mapped_good is_of_name name_piece name_good text sound.1))

identifier_good : (text : List ℕ) → AllSound text → GoodList is_of_name (identifier_pieces text) text
unfolding identifier_pieces
identifier_good [] sound = tt
identifier_good (c ∷ text) sound = split (c == 45) (λ b. (c == 45) ≡ b → GoodList is_of_name (cond b (dash_pieces text) (first_piece c ∷ map name_piece text)) (c ∷ text))
    (λ _ e. subst (λ x. GoodList is_of_name (dash_pieces text) (x ∷ text)) (sym (eqb-true c 45 e)) (dash_good text (subst IsSound (eqb-true c 45 e) sound.0) sound.1))
    (λ _ _. (first_good c sound.0, mapped_good is_of_name name_piece name_good text sound.1)) refl

others_form : (c : ℕ) (text : List ℕ) → first_written c ++ flat_map name_written text ≡ all_written (first_piece c ∷ map name_piece text)
others_form c text = ap (λ t. t ++ flat_map name_written text) (first_form c) ∙ ap (λ t. written (first_piece c) ++ t) (mapped_written name_piece name_written name_form text)

dash_form : (text : List ℕ) → after_dash text ≡ all_written (dash_pieces text)
unfolding dash_pieces
dash_form [] = sym (append-nil (escaped 45))
dash_form (c ∷ text) = ap (λ t. 45 ∷ t) (others_form c text)

identifier_form : (text : List ℕ) → printed_identifier text ≡ all_written (identifier_pieces text)
unfolding identifier_pieces
identifier_form [] = refl
identifier_form (c ∷ text) = split (c == 45) (λ b. cond b (after_dash text) (first_written c ++ flat_map name_written text) ≡ all_written (cond b (dash_pieces text) (first_piece c ∷ map name_piece text)))
    (λ _. dash_form text) (λ _. others_form c text)

identifier_some : (text : List ℕ) → (length text == 0) ≡ false → 0 < length (identifier_pieces text)
unfolding identifier_pieces dash_pieces
identifier_some [] some = absurd (false≢true (sym some))
identifier_some (c ∷ []) some = split (c == 45) (λ b. 0 < length (cond b (dash_pieces []) (first_piece c ∷ map name_piece []))) (λ _. omega arith) (λ _. omega arith)
identifier_some (c ∷ d ∷ text) some = split (c == 45) (λ b. 0 < length (cond b (dash_pieces (d ∷ text)) (first_piece c ∷ map name_piece (d ∷ text)))) (λ _. omega arith) (λ _. omega arith)

-- ---- how it begins

-- neither a digit, nor a '-' where none was
first_apart : (c : ℕ) (tail : List ℕ) → (c == 45) ≡ false → begins_number (first_written c ++ tail) ≡ false
first_apart c tail dash = split (is_ascii_digit c) (λ b. is_ascii_digit c ≡ b → begins_number (cond b (escaped c) (name_written c) ++ tail) ≡ false) (λ _ _. refl)
    (λ _ e. split (is_name_character c) (λ b. begins_number (cond b (c ∷ []) (escaped c) ++ tail) ≡ false) (λ _. rw (e, dash) refl) (λ _. refl)) refl

first_no_digit : (c : ℕ) (tail : List ℕ) → begins is_ascii_digit (first_written c ++ tail) ≡ false
first_no_digit c tail = split (is_ascii_digit c) (λ b. is_ascii_digit c ≡ b → begins is_ascii_digit (cond b (escaped c) (name_written c) ++ tail) ≡ false) (λ _ _. refl)
    (λ _ e. split (is_name_character c) (λ b. begins is_ascii_digit (cond b (c ∷ []) (escaped c) ++ tail) ≡ false) (λ _. e) (λ _. refl)) refl

first_some : (c : ℕ) → 1 ≤ length (first_written c)
first_some c = split (is_ascii_digit c) (λ b. 1 ≤ length (cond b (escaped c) (name_written c))) (λ _. omega arith)
    (λ _. split (is_name_character c) (λ b. 1 ≤ length (cond b (c ∷ []) (escaped c))) (λ _. omega arith) (λ _. omega arith))

longer : (text rest : List ℕ) → 1 ≤ length text → text ++ rest ≡ rest → ⊥
longer text rest some same = let e : length text + length rest ≡ length rest = sym (length-append text rest) ∙ ap length same in omega (arith, e)

first_dash : (c : ℕ) (tail rest : List ℕ) → (c == 45) ≡ false → first_written c ++ tail ≢ 45 ∷ rest
first_dash c tail rest dash = split (is_ascii_digit c) (λ b. cond b (escaped c) (name_written c) ++ tail ≡ 45 ∷ rest → ⊥) (λ _ same. escaped_dash c tail rest same)
    (λ _. split (is_name_character c) (λ b. cond b (c ∷ []) (escaped c) ++ tail ≡ 45 ∷ rest → ⊥) (λ _ same. eqb-false c 45 dash (heads_same c 45 tail rest same).0) (λ _ same. escaped_dash c tail rest same))
  where
    escaped_dash : (c : ℕ) (tail rest : List ℕ) → escaped c ++ tail ≡ 45 ∷ rest → ⊥
    escaped_dash c tail rest same = let e : 92 ≡ 45 = (heads_same 92 45 _ rest same).0 in omega (arith, e)

dash_no_number : (text rest : List ℕ) → begins_number (after_dash text ++ rest) ≡ false
dash_no_number [] rest = refl
dash_no_number (c ∷ text) rest = ap (begins is_ascii_digit) (append_assoc (first_written c) (flat_map name_written text) rest) ∙ first_no_digit c (flat_map name_written text ++ rest)

dash_no_dash : (text rest : List ℕ) → after_dash text ++ rest ≢ 45 ∷ rest
dash_no_dash [] rest same = let e : 92 ≡ 45 = (heads_same 92 45 _ rest same).0 in omega (arith, e)
dash_no_dash (c ∷ text) rest same =
    let h : 1 ≤ length (first_written c) = first_some c in
    longer (first_written c ++ flat_map name_written text) rest (omega (arith, length-append (first_written c) (flat_map name_written text))) (heads_same 45 45 _ rest same).1

no_number : (name rest : List ℕ) → begins_name rest ≡ false → (length name == 0) ≡ false → begins_number (printed_identifier name ++ rest) ≡ false
no_number [] rest ends some = absurd (false≢true (sym some))
no_number (c ∷ text) rest ends some = split (c == 45) (λ b. (c == 45) ≡ b → begins_number (cond b (after_dash text) (first_written c ++ flat_map name_written text) ++ rest) ≡ false)
    (λ _ _. dash_no_number text rest) (λ _ e. ap begins_number (append_assoc (first_written c) (flat_map name_written text) rest) ∙ first_apart c (flat_map name_written text ++ rest) e) refl

no_dash : (name rest : List ℕ) → (length name == 0) ≡ false → printed_identifier name ++ rest ≢ 45 ∷ rest
no_dash [] rest some = absurd (false≢true (sym some))
no_dash (c ∷ text) rest some = split (c == 45) (λ b. (c == 45) ≡ b → cond b (after_dash text) (first_written c ++ flat_map name_written text) ++ rest ≡ 45 ∷ rest → ⊥)
    (λ _ _. dash_no_dash text rest) (λ _ e same. first_dash c (flat_map name_written text ++ rest) rest e (sym (append_assoc (first_written c) (flat_map name_written text) rest) ∙ same)) refl

pub identifier_reads : (name rest : List ℕ) → is_name name ≡ true → begins_name rest ≡ false → IdentifierIs (printed_identifier name ++ rest) name rest
identifier_reads name rest named ends =
    let p : (not (length name == 0) ≡ true) × (is_text name ≡ true) = and_parts _ _ named in
    let some : (length name == 0) ≡ false = not-true _ p.0 in
    let good : GoodList is_of_name (identifier_pieces name) name = identifier_good name (all_sound name p.1) in
    record {
      name = record {
        pieces = identifier_pieces name;
        some = identifier_some name some;
        each = goods_each is_of_name (identifier_pieces name) name rest good;
        whole = ends;
        text_is = ap (λ t. t ++ rest) (identifier_form name);
        value_is = goods_mean is_of_name (identifier_pieces name) name good;
      };
      no_number = no_number name rest ends some;
      no_dash = no_dash name rest some;
    }

-- ---- the pieces of a string

string_piece : ℕ → Piece
string_piece c = cond ((c == 34) || (c == 92) || is_break c) (hexed c) (plain c)

string_good : (c : ℕ) → IsSound c → Good (is_of_string 34) (string_piece c) c
unfolding string_piece
string_good c is = split ((c == 34) || (c == 92) || is_break c) (λ b. ((c == 34) || (c == 92) || is_break c) ≡ b → Good (is_of_string 34) (cond b (hexed c) (plain c)) c)
    (λ _ e. record { fits = hexed_fits c is (special_low c e); means = hexed_means c is (special_low c e) })
    (λ _ e. let p : (((c == 34) || (c == 92)) ≡ false) × (is_break c ≡ false) = or_parts _ _ e in let q : ((c == 34) ≡ false) × ((c == 92) ≡ false) = or_parts _ _ p.0 in
    record { fits = λ after. and_from _ _ (and_from _ _ (ap not q.0) (ap not q.1)) (ap not p.1); means = refl }) refl

string_form : (c : ℕ) → string_written c ≡ written (string_piece c)
unfolding string_piece
string_form c = split ((c == 34) || (c == 92) || is_break c) (λ b. cond b (escaped c) (c ∷ []) ≡ written (cond b (hexed c) (plain c))) (λ _. refl) (λ _. refl)

pub string_reads : (text rest : List ℕ) → is_text text ≡ true → StringIs (printed_string text ++ rest) text rest
string_reads text rest texted =
    let good : GoodList (is_of_string 34) (map string_piece text) text = mapped_good (is_of_string 34) string_piece string_good text (all_sound text texted) in
    record {
      quote = 34;
      is_quote = refl;
      pieces = map string_piece text;
      each = goods_each (is_of_string 34) (map string_piece text) text (34 ∷ rest) good;
      text_is = ap (λ t. 34 ∷ t) (append_assoc (flat_map string_written text) (34 ∷ []) rest ∙ ap (λ t. t ++ 34 ∷ rest) (mapped_written string_piece string_written string_form text));
      value_is = goods_mean (is_of_string 34) (map string_piece text) text good;
    }
