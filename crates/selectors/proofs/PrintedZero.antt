-- U+0000 stands in nothing that is printed.
use Rattle.std.proofs.Common.{◌≡◌, ◌∙◌, ℕ, suc, Bool, true, false, not, cond, List, [], ◌∷◌, ◌++◌, map, refl, sym, ap, arith}
use Rattle.std.specs.Prelude.{ℤ, pos, negsuc, ◌&&◌, ◌||◌, ◌==◌, codes}
use Rattle.std.specs.List.{list_all, list_any, flat_map}
use Rattle.std.specs.Char.{digit_char, is_ascii_digit}
use Rattle.std.specs.Int.Digits.{digits_of}
use Rattle.std.proofs.lemmas.Bool.{true≢false, and_parts, or_parts, or_from, not-true, ne_eqb}
use Rattle.std.proofs.lemmas.Bool.Decides.{nat_tests}
use Rattle.std.proofs.lemmas.List.Folds.{list_any-append}
use Rattle.selectors.specs.Characters.{is_break, is_name_character}
use Rattle.selectors.specs.Grammar.{test_text}
use Rattle.selectors.specs.Printing.{digits_text, escaped, name_written, first_written, after_dash, printed_identifier, string_written, printed_string, number_text, first_text, second_text, printed_step}
use Rattle.selectors.specs.PrintingSelectors.{plain_text, printed_plain, simple_text, printed_simple, printed_compound, combinator_text, printed_join, printed_complex, printed_next, printed_selector}
use Rattle.selectors.specs.Texted.{is_text, is_name}
use Rattle.selectors.specs.WellFormed.{plain_of, is_plain, is_first_only, is_compound_of, simple_of, is_simple, is_compound, is_joined, is_complex}
use Rattle.selectors.specs.declared.selector.Simple.{Simple, out-Simple}
use Rattle.selectors.specs.declared.selector.Simple.TheOpen.{Simple-F}
use Rattle.selectors.specs.declared.selector.Combinator.{Combinator}
use Rattle.selectors.specs.declared.selector.Combinator.TheVariants.{Descendant, Child, Next, Later}
use Rattle.selectors.specs.declared.selector.Complex.{Complex}
use Rattle.selectors.specs.declared.selector.Test.{Test}
use Rattle.selectors.specs.declared.selector.Test.TheVariants.{Equal, Word, Dash, Starts, Ends, Holds}

abbrev pub zero_in : List ℕ → Bool
zero_in text = list_any (λ c. c == 0) text

joined_clean : (a b : List ℕ) → zero_in a ≡ false → zero_in b ≡ false → zero_in (a ++ b) ≡ false
joined_clean a b h k = list_any-append (λ c. c == 0) a b ∙ or_from (zero_in a) (zero_in b) h k

-- each item that passes gives a clean text
each_clean : {A : Type 0} (f : A → List ℕ) (good : A → Bool) → ((x : A) → good x ≡ true → zero_in (f x) ≡ false) → (xs : List A) → list_all good xs ≡ true → zero_in (flat_map f xs) ≡ false
each_clean f good clean [] h = refl
each_clean f good clean (x ∷ xs) h = let p = and_parts (good x) (list_all good xs) h in joined_clean (f x) (flat_map f xs) (clean x p.0) (each_clean f good clean xs p.1)

all_clean : {A : Type 0} (f : A → List ℕ) → ((x : A) → zero_in (f x) ≡ false) → (xs : List A) → zero_in (flat_map f xs) ≡ false
all_clean f clean [] = refl
all_clean f clean (x ∷ xs) = joined_clean (f x) (flat_map f xs) (clean x) (all_clean f clean xs)

digit_clean : (d : ℕ) → (digit_char d == 0) ≡ false
digit_clean d = grind (arith, nat_tests)

digits_clean : (ds : List ℕ) → zero_in (map digit_char ds) ≡ false
digits_clean [] = refl
digits_clean (d ∷ ds) = or_from _ _ (digit_clean d) (digits_clean ds)

escaped_clean : (c : ℕ) → zero_in (escaped c) ≡ false
escaped_clean c = joined_clean (92 ∷ digits_text 16 c) (32 ∷ []) (digits_clean (digits_of 16 c)) refl

alone_clean : (c : ℕ) → (c == 0) ≡ false → zero_in (c ∷ []) ≡ false
alone_clean c h = or_from _ _ h refl

-- one of two texts
either_clean : (b : Bool) (x y : List ℕ) → (b ≡ true → zero_in x ≡ false) → (b ≡ false → zero_in y ≡ false) → zero_in (cond b x y) ≡ false
either_clean true x y f g = f refl
either_clean false x y f g = g refl

name_character_clean : (c : ℕ) → is_name_character c ≡ true → (c == 0) ≡ false
name_character_clean c h = ne_eqb c 0 (λ e. true≢false (sym h ∙ ap is_name_character e))

name_clean : (c : ℕ) → zero_in (name_written c) ≡ false
name_clean c = either_clean (is_name_character c) (c ∷ []) (escaped c) (λ h. alone_clean c (name_character_clean c h)) (λ h. escaped_clean c)

first_clean : (c : ℕ) → zero_in (first_written c) ≡ false
first_clean c = either_clean (is_ascii_digit c) (escaped c) (name_written c) (λ h. escaped_clean c) (λ h. name_clean c)

dash_clean : (text : List ℕ) → zero_in (after_dash text) ≡ false
dash_clean [] = escaped_clean 45
dash_clean (c ∷ text) = joined_clean (first_written c) (flat_map name_written text) (first_clean c) (all_clean name_written name_clean text)

identifier_clean : (name : List ℕ) → zero_in (printed_identifier name) ≡ false
identifier_clean [] = refl
identifier_clean (c ∷ text) = either_clean (c == 45) (after_dash text) (first_written c ++ flat_map name_written text) (λ h. dash_clean text) (λ h. joined_clean (first_written c) (flat_map name_written text) (first_clean c) (all_clean name_written name_clean text))

string_character_clean : (c : ℕ) → (c == 0) ≡ false → zero_in (string_written c) ≡ false
string_character_clean c h = either_clean ((c == 34) || (c == 92) || is_break c) (escaped c) (c ∷ []) (λ k. escaped_clean c) (λ k. alone_clean c h)

string_characters_clean : (text : List ℕ) → zero_in text ≡ false → zero_in (flat_map string_written text) ≡ false
string_characters_clean [] h = refl
string_characters_clean (c ∷ text) h = let p = or_parts (c == 0) (zero_in text) h in joined_clean (string_written c) (flat_map string_written text) (string_character_clean c p.0) (string_characters_clean text p.1)

string_clean : (text : List ℕ) → is_text text ≡ true → zero_in (printed_string text) ≡ false
string_clean text h = joined_clean (34 ∷ flat_map string_written text) (34 ∷ []) (string_characters_clean text (not-true (zero_in text) h)) refl

number_clean : (n : ℕ) → zero_in (number_text n) ≡ false
number_clean n = either_clean (n == 0) (48 ∷ []) (digits_text 10 n) (λ h. refl) (λ h. digits_clean (digits_of 10 n))

first_number_clean : (a : ℤ) → zero_in (first_text a) ≡ false
first_number_clean (pos n) = number_clean n
first_number_clean (negsuc n) = number_clean (suc n)

second_number_clean : (b : ℤ) → zero_in (second_text b) ≡ false
second_number_clean (pos n) = number_clean n
second_number_clean (negsuc n) = number_clean (suc n)

step_clean : (a b : ℤ) → zero_in (printed_step a b) ≡ false
step_clean a b = joined_clean (first_text a) (110 ∷ second_text b) (first_number_clean a) (second_number_clean b)

test_clean : (test : Test) → zero_in (test_text test) ≡ false
test_clean Equal = refl
test_clean Word = refl
test_clean Dash = refl
test_clean Starts = refl
test_clean Ends = refl
test_clean Holds = refl

plain_clean : (step : Simple-F Simple) → plain_of step ≡ true → zero_in (plain_text step) ≡ false
plain_clean (Simple-F.Tag text) h = identifier_clean text
plain_clean (Simple-F.Id text) h = identifier_clean text
plain_clean (Simple-F.Class text) h = identifier_clean text
plain_clean (Simple-F.Has name) h = joined_clean (91 ∷ printed_identifier name) (codes "]") (identifier_clean name) refl
plain_clean (Simple-F.Attr name test text) h =
    joined_clean ((91 ∷ printed_identifier name ++ test_text test) ++ printed_string text) (codes "]")
    (joined_clean (91 ∷ printed_identifier name ++ test_text test) (printed_string text) (joined_clean (91 ∷ printed_identifier name) (test_text test) (identifier_clean name) (test_clean test)) (string_clean text (and_parts (is_name name) (is_text text) h).1)) refl
plain_clean (Simple-F.Nth a b) h = joined_clean (codes ":nth-child(" ++ printed_step a b) (codes ")") (joined_clean (codes ":nth-child(") (printed_step a b) refl (step_clean a b)) refl
plain_clean other h = refl

-- the simples of a good compound are good
compound_parts : (good : Simple → Bool) (simples : List Simple) → is_compound_of good simples ≡ true → list_all good simples ≡ true
compound_parts good [] h = refl
compound_parts good (simple ∷ simples) h = (and_parts (good simple && list_all good simples) (not (list_any is_first_only simples)) h).0

simple_clean : (step : Simple-F Simple) → simple_of step ≡ true → zero_in (simple_text step) ≡ false
simple_clean (Simple-F.Not simples) h =
    joined_clean (codes ":not(" ++ flat_map printed_plain simples) (codes ")") (joined_clean (codes ":not(") (flat_map printed_plain simples) refl (each_clean printed_plain is_plain (λ s k. plain_clean (out-Simple s) k) simples (compound_parts is_plain simples h))) refl
simple_clean other h = plain_clean other h

compound_clean : (simples : List Simple) → is_compound simples ≡ true → zero_in (printed_compound simples) ≡ false
compound_clean simples h = each_clean printed_simple is_simple (λ s k. simple_clean (out-Simple s) k) simples (compound_parts is_simple simples h)

combinator_clean : (combinator : Combinator) → zero_in (combinator_text combinator) ≡ false
combinator_clean Descendant = refl
combinator_clean Child = refl
combinator_clean Next = refl
combinator_clean Later = refl

join_clean : (join : Combinator × List Simple) → is_joined join ≡ true → zero_in (printed_join join) ≡ false
join_clean join h = joined_clean (combinator_text join.0) (printed_compound join.1) (combinator_clean join.0) (compound_clean join.1 h)

complex_clean : (complex : Complex) → is_complex complex ≡ true → zero_in (printed_complex complex) ≡ false
complex_clean complex h =
    let p = and_parts (is_compound complex.first) (list_all is_joined complex.rest) h in
    joined_clean (printed_compound complex.first) (flat_map printed_join complex.rest) (compound_clean complex.first p.0) (each_clean printed_join is_joined join_clean complex.rest p.1)

pub selector_clean : (complex : Complex) (selector : List Complex) → is_complex complex ≡ true → list_all is_complex selector ≡ true → zero_in (printed_selector (complex ∷ selector)) ≡ false
selector_clean complex selector h k = joined_clean (printed_complex complex) (flat_map printed_next selector) (complex_clean complex h) (each_clean printed_next is_complex (λ c g. joined_clean (codes ", ") (printed_complex c) refl (complex_clean c g)) selector k)
