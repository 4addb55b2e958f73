-- Words behind ':', read in lower case.
use Rattle.std.proofs.Common.{◌≡◌, ◌∙◌, subst, ℕ, true, false, cond, ◌⊎◌, inl, inr, Option, Some, List, [], ◌∷◌, ◌++◌, refl, sym, ap, arith}
use Rattle.std.specs.Prelude.{codes}
use Rattle.std.specs.Char.{to_ascii_lowercase}
use Rattle.std.specs.List.{list_all}
use Rattle.std.specs.Str.{bytes_eq, str_to_ascii_lowercase}
use Rattle.std.proofs.lemmas.Bool.{and_parts, and_from}
use Rattle.std.proofs.lemmas.Bool.Decides.{nat_tests}
use Rattle.std.proofs.lemmas.Option.{none-some, same_Some}
use Rattle.std.proofs.lemmas.Slice.Eq.{bytes_eq-Decides}
use Rattle.selectors.specs.Characters.{begins, is_name_character}
use Rattle.selectors.specs.Grammar.{PseudoIs, WordIs, first_child, last_child, empty, root, checked, enabled, disabled}
use Rattle.selectors.specs.ReadingSimples.{passing, word_in, past_word, word_simple}
use Rattle.selectors.specs.declared.selector.Simple.{Simple}
use Rattle.selectors.specs.declared.selector.Simple.TheVariants.{FirstChild, LastChild, Empty, Root, Checked, Enabled, Disabled}
use Rattle.selectors.proofs.Binds.{chosen}
use Rattle.selectors.proofs.Whites.{split_whole, past_stops, past-append, passing-append}

name_lower : (c : ℕ) → is_name_character (to_ascii_lowercase c) ≡ true → is_name_character c ≡ true
name_lower c h = grind (arith, nat_tests)

names_lower : (written : List ℕ) → list_all is_name_character (str_to_ascii_lowercase written) ≡ true → list_all is_name_character written ≡ true
names_lower [] h = refl
names_lower (c ∷ written) h = let p = and_parts (is_name_character (to_ascii_lowercase c)) (list_all is_name_character (str_to_ascii_lowercase written)) h in and_from _ _ (name_lower c p.0) (names_lower written p.1)

pub word_finds : (written word rest : List ℕ) → str_to_ascii_lowercase written ≡ word → list_all is_name_character word ≡ true → begins is_name_character rest ≡ false → word_in (written ++ rest) ≡ word
word_finds written word rest e h k = ap str_to_ascii_lowercase (passing-append is_name_character written rest (names_lower written (ap (list_all is_name_character) e ∙ h)) k) ∙ e

pub past_word_finds : (written word rest : List ℕ) → str_to_ascii_lowercase written ≡ word → list_all is_name_character word ≡ true → begins is_name_character rest ≡ false → past_word (written ++ rest) ≡ rest
past_word_finds written word rest e h k = past-append is_name_character written rest (names_lower written (ap (list_all is_name_character) e ∙ h)) k

pub pseudo_sound : (text : List ℕ) → PseudoIs (58 ∷ text) (word_in text) (past_word text)
pseudo_sound text = record { written = passing is_name_character text; text_is = ap (λ t. 58 ∷ t) (split_whole is_name_character text); word_is = refl; whole = past_stops is_name_character text }

pub word_simple_finds : (word : List ℕ) (simple : Simple) → WordIs word simple → word_simple word ≡ Some simple
word_simple_finds word simple first_child = refl
word_simple_finds word simple last_child = refl
word_simple_finds word simple empty = refl
word_simple_finds word simple root = refl
word_simple_finds word simple checked = refl
word_simple_finds word simple enabled = refl
word_simple_finds word simple disabled = refl

pub same_word : (a b : List ℕ) → bytes_eq a b ≡ true → a ≡ b
same_word a b h = (bytes_eq-Decides a b).0 h

pub is_word : (word : List ℕ) → bytes_eq word word ≡ true
is_word word = (bytes_eq-Decides word word).1 refl

-- words that stand alone are words of name characters
pub word_passes : (word : List ℕ) (simple : Simple) → WordIs word simple → list_all is_name_character word ≡ true
word_passes word simple first_child = refl
word_passes word simple last_child = refl
word_passes word simple empty = refl
word_passes word simple root = refl
word_passes word simple checked = refl
word_passes word simple enabled = refl
word_passes word simple disabled = refl

step : (word name : List ℕ) (this simple : Simple) (others : Option Simple) → WordIs name this → (others ≡ Some simple → WordIs word simple) → cond (bytes_eq word name) (Some this) others ≡ Some simple → WordIs word simple
step word name this simple others w next h = go (chosen (bytes_eq word name) _ _ _ h)
  where
    go : ((bytes_eq word name ≡ true) × (◌≡◌ {A = Option Simple} (Some this) (Some simple))) ⊎ ((bytes_eq word name ≡ false) × (others ≡ Some simple)) → WordIs word simple
    go (inl p) = subst (λ s. WordIs word s) (same_Some this simple p.1) (subst (λ v. WordIs v this) (sym (same_word word name p.0)) w)
    go (inr p) = next p.1

pub word_simple_sound : (word : List ℕ) (simple : Simple) → word_simple word ≡ Some simple → WordIs word simple
word_simple_sound word simple = step word (codes "first-child") FirstChild simple _ first_child
    (step word (codes "last-child") LastChild simple _ last_child
    (step word (codes "empty") Empty simple _ empty
    (step word (codes "root") Root simple _ root
    (step word (codes "checked") Checked simple _ checked
    (step word (codes "enabled") Enabled simple _ enabled
    (step word (codes "disabled") Disabled simple _ disabled (λ h. absurd (none-some simple h))))))))
