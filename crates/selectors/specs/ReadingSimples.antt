-- What simples stand at the front of a text, read from left to right, and the text behind them.
use Rattle.std.specs.Prelude.{ℕ, Bool, false, ◌==◌, Option, Some, None, List, [], ◌∷◌, ◌++◌, zero, suc, length, codes, cond}
use Rattle.std.specs.Str.{bytes_eq, str_to_ascii_lowercase}
use Rattle.selectors.specs.Characters.{is_name_character, begins}
use Rattle.selectors.specs.Grammar.{is_mark}
use Rattle.selectors.specs.ReadingSteps.{argument_at}
use Rattle.selectors.specs.Reading.{after_white}
use Rattle.selectors.specs.Reading.{identifier_at, string_at, is_quote}
use Rattle.selectors.specs.declared.selector.Simple.{Simple}
use Rattle.selectors.specs.declared.selector.Simple.TheVariants.{Tag, Any, Id, Class, Has, Attr, Not, FirstChild, LastChild, Nth, Empty, Root, Checked, Enabled, Disabled}
use Rattle.selectors.specs.declared.selector.Test.{Test}
use Rattle.selectors.specs.declared.selector.Test.TheVariants.{Equal, Word, Dash, Starts, Ends, Holds}

-- the characters at the front that pass a test
abbrev pub passing : (ℕ → Bool) → List ℕ → List ℕ
passing test [] = []
passing test (c ∷ text) = cond (test c) (c ∷ passing test text) []

-- the text behind them
abbrev pub past : (ℕ → Bool) → List ℕ → List ℕ
past test [] = []
past test (c ∷ text) = cond (test c) (past test text) (c ∷ text)

-- nothing, or what is read from what was read before
infixl 10 ◌>>=◌
abbrev pub ◌>>=◌ : {A B : Type 0} → Option A → (A → Option B) → Option B
None >>= next = None
(Some x) >>= next = next x

-- the text behind this character
abbrev pub behind_character : ℕ → List ℕ → Option (List ℕ)
behind_character c [] = None
behind_character c (d ∷ text) = cond (d == c) (Some text) None

-- the test that stands before a '='
abbrev pub marked_test : ℕ → Option Test
marked_test c = cond (c == 126) (Some Word) (cond (c == 124) (Some Dash) (cond (c == 94) (Some Starts) (cond (c == 36) (Some Ends) (cond (c == 42) (Some Holds) None))))

abbrev pub test_at : List ℕ → Option (Test × List ℕ)
test_at [] = None
test_at (c ∷ text) = cond (c == 61) (Some (Equal, text)) (do
  test ← marked_test c
  rest ← behind_character 61 text
  Some (test, rest))

unfoldable pub text_at : List ℕ → Option (List ℕ × List ℕ)
text_at text = cond (begins is_quote text) (string_at text) (identifier_at text)

-- a simple that is made of an identifier
unfoldable pub named_at : (List ℕ → Simple) → List ℕ → Option (Simple × List ℕ)
named_at make text = do
  name ← identifier_at text
  Some (make name.0, name.1)

-- behind the name of an attribute and white space: a test, a text and ']'
unfoldable pub compared_at : List ℕ → List ℕ → Option (Simple × List ℕ)
compared_at name text = do
  test ← test_at text
  value ← text_at (after_white test.1)
  rest ← behind_character 93 (after_white value.1)
  Some (Attr name test.0 value.0, rest)

unfoldable pub bracket_end_at : List ℕ → List ℕ → Option (Simple × List ℕ)
bracket_end_at name [] = None
bracket_end_at name (c ∷ text) = cond (c == 93) (Some (Has name, text)) (compared_at name (c ∷ text))

-- behind '['
unfoldable pub bracket_at : List ℕ → Option (Simple × List ℕ)
bracket_at text = do
  name ← identifier_at (after_white text)
  bracket_end_at name.0 (after_white name.1)

-- the pseudo-class of this word, which stands alone
abbrev pub word_simple : List ℕ → Option Simple
word_simple word = cond (bytes_eq word (codes "first-child")) (Some FirstChild)
    (cond (bytes_eq word (codes "last-child")) (Some LastChild)
    (cond (bytes_eq word (codes "empty")) (Some Empty)
    (cond (bytes_eq word (codes "root")) (Some Root)
    (cond (bytes_eq word (codes "checked")) (Some Checked)
    (cond (bytes_eq word (codes "enabled")) (Some Enabled)
    (cond (bytes_eq word (codes "disabled")) (Some Disabled) None))))))

-- the word at the front in lower case, and the text behind it
abbrev pub word_in : List ℕ → List ℕ
word_in text = str_to_ascii_lowercase (passing is_name_character text)

abbrev pub past_word : List ℕ → List ℕ
past_word text = past is_name_character text

-- behind the word `nth-child`
unfoldable pub nth_at : List ℕ → Option (Simple × List ℕ)
nth_at text = do
  inside ← behind_character 40 text
  argument ← argument_at inside
  Some (Nth argument.0.0 argument.0.1, argument.1)

-- behind ':'
unfoldable pub pseudo_at : List ℕ → Option (Simple × List ℕ)
pseudo_at text = cond (bytes_eq (word_in text) (codes "nth-child")) (nth_at (past_word text)) (do
  simple ← word_simple (word_in text)
  Some (simple, past_word text))

-- a simple that may stand anywhere, but for `:not`
unfoldable pub plain_at : List ℕ → Option (Simple × List ℕ)
plain_at [] = None
plain_at (c ∷ text) = cond (c == 35) (named_at Id text) (cond (c == 46) (named_at Class text) (cond (c == 91) (bracket_at text) (cond (c == 58) (pseudo_at text) None)))

-- items one behind another while the text passes a test, at most so many
unfoldable pub items_at : {A : Type 0} → (List ℕ → Bool) → (List ℕ → Option (A × List ℕ)) → ℕ → List ℕ → Option (List A × List ℕ)
items_at test item_at zero text = Some ([], text)
items_at test item_at (suc most) text = cond (test text) (do
  item ← item_at text
  items ← items_at test item_at most item.1
  Some (item.0 ∷ items.0, items.1)) (Some ([], text))

-- all of them: there aren't more than the text has characters
abbrev pub row_at : {A : Type 0} → (List ℕ → Bool) → (List ℕ → Option (A × List ℕ)) → List ℕ → Option (List A × List ℕ)
row_at test item_at text = items_at test item_at (length text) text

abbrev pub marks : List ℕ → Bool
marks text = begins is_mark text

-- what was read before, in front of what is read
abbrev pub in_front : {A : Type 0} → List A → Option (List A × List ℕ) → Option (List A × List ℕ)
in_front front read = read >>= λ x. Some (front ++ x.0, x.1)

-- the simple that stands first only, or none before a mark
unfoldable pub start_at : List ℕ → Option (List Simple × List ℕ)
start_at [] = None
start_at (c ∷ text) = cond (c == 42) (Some (Any ∷ [], text)) (cond (is_mark c) (Some ([], c ∷ text)) (do
  tag ← identifier_at (c ∷ text)
  Some (Tag tag.0 ∷ [], tag.1)))

-- a compound
unfoldable pub compound_at : (List ℕ → Option (Simple × List ℕ)) → List ℕ → Option (List Simple × List ℕ)
compound_at simple_at text = do
  start ← start_at text
  in_front start.0 (row_at marks simple_at start.1)

-- behind the word `not`
unfoldable pub not_at : List ℕ → Option (Simple × List ℕ)
not_at text = do
  inside ← behind_character 40 text
  simples ← compound_at plain_at (after_white inside)
  rest ← behind_character 41 (after_white simples.1)
  Some (Not simples.0, rest)

abbrev pub is_not : List ℕ → Bool
is_not [] = false
is_not (c ∷ text) = cond (c == 58) (bytes_eq (word_in text) (codes "not")) false

-- a simple that may stand anywhere
unfoldable pub simple_at : List ℕ → Option (Simple × List ℕ)
simple_at [] = None
simple_at (c ∷ text) = cond (is_not (c ∷ text)) (not_at (past_word text)) (plain_at (c ∷ text))
