-- What identifiers begin with, and that what is left behind an identifier, a string or an argument is shorter.
use Rattle.std.proofs.Common.{◌≡◌, cond, ◌∙◌, ℕ, ◌<◌, ◌≤◌, Bool, true, false, List, [], ◌∷◌, ◌++◌, length, length-append, refl, sym, ap, arith}
use Rattle.std.specs.Prelude.{ℤ, ◌==◌, ◌||◌, ◌&&◌, not}
use Rattle.std.specs.Char.{is_ascii_digit}
use Rattle.std.proofs.lemmas.Bool.{true≢false, eqb-true, and_parts}
use Rattle.selectors.specs.Characters.{begins, is_break, is_name_character}
use Rattle.selectors.specs.Escapes.{is_of_name, all_written}
use Rattle.selectors.specs.Names.{IdentifierIs, StringIs, begins_name}
use Rattle.selectors.specs.Reading.{name_piece_at, starts_identifier}
use Rattle.selectors.specs.Steps.{ArgumentIs}
use Rattle.selectors.proofs.Identifiers.{identifier_to}
use Rattle.selectors.proofs.NamePieces.{name_reads}
use Rattle.selectors.proofs.Spelled.{Spelled, none, more, piece_shortens}

-- a name character or a backslash
abbrev pub is_start : ℕ → Bool
is_start c = is_name_character c || (c == 92)

weaker : (a b x : Bool) → (a || (b && x)) ≡ true → (a || b) ≡ true
weaker true b x h = refl
weaker false true x h = refl
weaker false false x h = h

starts_begins : (text : List ℕ) → starts_identifier text ≡ true → begins_name text ≡ true
starts_begins [] h = h
starts_begins (c ∷ text) h = go (c == 45) refl h
  where
    go : (b : Bool) → (c == 45) ≡ b → cond b (begins_name text && not (begins is_ascii_digit text)) (begins_name (c ∷ text) && not (is_ascii_digit c)) ≡ true → begins_name (c ∷ text) ≡ true
    go true e k = ap (λ d. begins_name (d ∷ text)) (eqb-true c 45 e)
    go false e k = (and_parts (begins_name (c ∷ text)) (not (is_ascii_digit c)) k).0

begins_start : (text : List ℕ) → begins_name text ≡ true → begins is_start text ≡ true
begins_start [] h = h
begins_start (c ∷ text) h = weaker (is_name_character c) (c == 92) (begins (λ d. not (is_break d)) text) h

pub identifier_starts : (text value rest : List ℕ) → IdentifierIs text value rest → begins is_start text ≡ true
identifier_starts text value rest h = begins_start text (starts_begins text (identifier_to text value rest h).0)

spelled_shrinks : (text value rest : List ℕ) → Spelled name_piece_at text value rest → length rest ≤ length text
spelled_shrinks _ _ _ (none rest e) = omega arith
spelled_shrinks _ _ _ (more text part middle value rest e s) = omega (arith, piece_shortens is_of_name text part middle (name_reads text part middle e), spelled_shrinks middle value rest s)

name_shrinks : (text value rest : List ℕ) → begins_name text ≡ true → begins_name rest ≡ false → Spelled name_piece_at text value rest → length rest < length text
name_shrinks _ _ _ b e (none rest k) = absurd (true≢false (sym b ∙ e))
name_shrinks _ _ _ b e (more text part middle value rest k s) = omega (arith, piece_shortens is_of_name text part middle (name_reads text part middle k), spelled_shrinks middle value rest s)

pub identifier_shrinks : (text value rest : List ℕ) → IdentifierIs text value rest → length rest < length text
identifier_shrinks text value rest h = let t = identifier_to text value rest h in name_shrinks text value rest (starts_begins text t.0) h.name.whole t.1

pub string_shrinks : (text value rest : List ℕ) → StringIs text value rest → length rest < length text
string_shrinks text value rest h = omega (arith, ap length h.text_is, length-append (all_written h.pieces) (h.quote ∷ rest))

pub argument_shrinks : (text : List ℕ) (a b : ℤ) (rest : List ℕ) → ArgumentIs text a b rest → length rest < length text
argument_shrinks text a b rest h = omega (arith, ap length h.text_is, length-append ((h.before ++ h.step) ++ h.after) (41 ∷ rest))
