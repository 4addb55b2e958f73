-- What identifiers and texts don't begin with.
use Rattle.std.proofs.Common.{◌≡◌, ℕ, Bool, true, false, List, [], ◌∷◌, sym, ap, refl, ◌∙◌, arith}
use Rattle.std.specs.Prelude.{◌==◌, ◌||◌}
use Rattle.std.proofs.lemmas.Bool.{true≢false, or_left, or_right}
use Rattle.std.proofs.lemmas.Bool.Decides.{nat_tests}
use Rattle.selectors.specs.Characters.{begins, is_white}
use Rattle.selectors.specs.Names.{IdentifierIs}
use Rattle.selectors.specs.Grammar.{is_mark, TextIs, identifier, string}
use Rattle.selectors.specs.Reading.{is_quote}
use Rattle.selectors.proofs.NameStarts.{is_start, identifier_starts}

never : (test : ℕ → Bool) → ((c : ℕ) → is_start c ≡ true → test c ≡ false) → (text : List ℕ) → begins is_start text ≡ true → begins test text ≡ false
never test f [] h = absurd (true≢false (sym h))
never test f (c ∷ text) h = f c h

start_white : (c : ℕ) → is_start c ≡ true → is_white c ≡ false
start_white c h = grind (arith, nat_tests)

start_quote : (c : ℕ) → is_start c ≡ true → is_quote c ≡ false
start_quote c h = grind (arith, nat_tests)

pub start_mark : (c : ℕ) → is_start c ≡ true → is_mark c ≡ false
start_mark c h = grind (arith, nat_tests)

pub identifier_not_white : (text value rest : List ℕ) → IdentifierIs text value rest → begins is_white text ≡ false
identifier_not_white text value rest i = never is_white start_white text (identifier_starts text value rest i)

pub identifier_not_quote : (text value rest : List ℕ) → IdentifierIs text value rest → begins is_quote text ≡ false
identifier_not_quote text value rest i = never is_quote start_quote text (identifier_starts text value rest i)

quote_white : (c : ℕ) → is_quote c ≡ true → is_white c ≡ false
quote_white c h = grind (arith, nat_tests)

pub text_not_white : (text value rest : List ℕ) → TextIs text value rest → begins is_white text ≡ false
text_not_white text value rest (identifier i) = identifier_not_white text value rest i
text_not_white text value rest (string s) = ap (begins is_white) s.text_is ∙ quote_white s.quote s.is_quote

-- what a compound begins with
abbrev pub is_front : ℕ → Bool
is_front c = is_start c || is_mark c || (c == 42)

pub front_white : (c : ℕ) → is_front c ≡ true → is_white c ≡ false
front_white c h = grind (arith, nat_tests)

pub starts_front : (text : List ℕ) → begins is_start text ≡ true → begins is_front text ≡ true
starts_front [] h = absurd (true≢false (sym h))
starts_front (c ∷ text) h = or_left _ _ (or_left _ _ h)

pub marks_front : (text : List ℕ) → begins is_mark text ≡ true → begins is_front text ≡ true
marks_front [] h = absurd (true≢false (sym h))
marks_front (c ∷ text) h = or_left _ _ (or_right _ _ h)

-- no text of the one kind is of the other
pub begins_not : (one other : ℕ → Bool) → ((c : ℕ) → one c ≡ true → other c ≡ false) → (text : List ℕ) → begins one text ≡ true → begins other text ≡ false
begins_not one other f [] h = refl
begins_not one other f (c ∷ text) h = f c h
