-- The grammar of selectors (Selectors Level 4, section 4, in this project's profile): a text and the selector that it is.
-- A relation that ends in a rest says what the text begins with; the rest is left of it.
use Rattle.std.specs.Prelude.{◌≡◌, ℕ, ℤ, Bool, true, false, ◌||◌, ◌==◌, List, [], ◌∷◌, ◌++◌, codes}
use Rattle.std.specs.List.{list_all, list_any}
use Rattle.std.specs.Str.{str_to_ascii_lowercase}
use Rattle.selectors.specs.Characters.{is_white, is_name_character, begins}
use Rattle.selectors.specs.Names.{IdentifierIs, StringIs}
use Rattle.selectors.specs.Steps.{ArgumentIs}
use Rattle.selectors.specs.declared.fault.SelFault.{SelFault}
use Rattle.selectors.specs.declared.fault.SelFault.TheVariants.{Invalid, Memory}
use Rattle.selectors.specs.declared.selector.Simple.{Simple}
use Rattle.selectors.specs.declared.selector.Simple.TheVariants.{Tag, Any, Id, Class, Has, Attr, Not, FirstChild, LastChild, Nth, Empty, Root, Checked, Enabled, Disabled}
use Rattle.selectors.specs.declared.selector.Test.{Test}
use Rattle.selectors.specs.declared.selector.Test.TheVariants.{Equal, Word, Dash, Starts, Ends, Holds}
use Rattle.selectors.specs.declared.selector.Combinator.{Combinator}
use Rattle.selectors.specs.declared.selector.Combinator.TheVariants.{Descendant, Child, Next, Later}
use Rattle.selectors.specs.declared.selector.Complex.{Complex}

-- any number of white space, and then the rest
pub record WhiteIs (text rest : List ℕ) : Type 0 where
  pub white : List ℕ
  pub each : list_all is_white white ≡ true
  pub text_is : text ≡ white ++ rest

-- the items one behind another, none at all included
pub data RowIs (A : Type 0) (Is : List ℕ → A → List ℕ → Type 0) : List ℕ → List A → List ℕ → Type 0 where
  none : (rest : List ℕ) → RowIs A Is rest [] rest
  more : (text : List ℕ) (item : A) (middle : List ℕ) (items : List A) (rest : List ℕ) → Is text item middle → RowIs A Is middle items rest → RowIs A Is text (item ∷ items) rest

-- the text that an attribute is compared with
pub data TextIs (text value rest : List ℕ) : Type 0 where
  identifier : IdentifierIs text value rest → TextIs text value rest
  string : StringIs text value rest → TextIs text value rest

abbrev pub test_text : Test → List ℕ
test_text Equal = codes "="
test_text Word = codes "~="
test_text Dash = codes "|="
test_text Starts = codes "^="
test_text Ends = codes "$="
test_text Holds = codes "*="

-- the words of pseudo-classes that stand alone
pub data WordIs : List ℕ → Simple → Type 0 where
  first_child : WordIs (codes "first-child") FirstChild
  last_child : WordIs (codes "last-child") LastChild
  empty : WordIs (codes "empty") Empty
  root : WordIs (codes "root") Root
  checked : WordIs (codes "checked") Checked
  enabled : WordIs (codes "enabled") Enabled
  disabled : WordIs (codes "disabled") Disabled

-- ':', a word as it stands, without regard to ASCII case, and no further character of a word
pub record PseudoIs (text word rest : List ℕ) : Type 0 where
  pub written : List ℕ
  pub text_is : text ≡ 58 ∷ written ++ rest
  pub word_is : str_to_ascii_lowercase written ≡ word
  pub whole : begins is_name_character rest ≡ false

-- a simple that may stand first only
pub data FirstIs (text : List ℕ) (simple : Simple) (rest : List ℕ) : Type 0 where
  tag : (value : List ℕ) → IdentifierIs text value rest → simple ≡ Tag value → FirstIs text simple rest
  any : text ≡ 42 ∷ rest → simple ≡ Any → FirstIs text simple rest

-- '[', a name, a test, a text and ']'
pub record AttributeIs (text name : List ℕ) (test : Test) (value rest : List ℕ) : Type 0 where
  pub inside : List ℕ
  pub start : List ℕ
  pub end : List ℕ
  pub between : List ℕ
  pub other : List ℕ
  pub last : List ℕ
  pub text_is : text ≡ 91 ∷ inside
  pub before : WhiteIs inside start
  pub name_is : IdentifierIs start name end
  pub after : WhiteIs end (test_text test ++ between)
  pub behind : WhiteIs between other
  pub value_is : TextIs other value last
  pub ends : WhiteIs last (93 ∷ rest)

-- a simple that may stand anywhere, but for `:not`
pub data PlainIs (text : List ℕ) (simple : Simple) (rest : List ℕ) : Type 0 where
  id : (start value : List ℕ) → text ≡ 35 ∷ start → IdentifierIs start value rest → simple ≡ Id value → PlainIs text simple rest
  class : (start value : List ℕ) → text ≡ 46 ∷ start → IdentifierIs start value rest → simple ≡ Class value → PlainIs text simple rest
  has : (inside start name end : List ℕ) → text ≡ 91 ∷ inside → WhiteIs inside start → IdentifierIs start name end → WhiteIs end (93 ∷ rest) → simple ≡ Has name → PlainIs text simple rest
  attribute : (name : List ℕ) (test : Test) (value : List ℕ) → AttributeIs text name test value rest → simple ≡ Attr name test value → PlainIs text simple rest
  alone : (word : List ℕ) → PseudoIs text word rest → WordIs word simple → PlainIs text simple rest
  nth : (inside : List ℕ) (a b : ℤ) → PseudoIs text (codes "nth-child") (40 ∷ inside) → ArgumentIs inside a b rest → simple ≡ Nth a b → PlainIs text simple rest

-- '#', '.', '[' and ':', with which a simple begins that may stand anywhere
abbrev pub is_mark : ℕ → Bool
is_mark c = (c == 35) || (c == 46) || (c == 91) || (c == 58)

-- at least one simple, the first perhaps one that stands first only, up to a text that begins no further one
pub data CompoundIs (Is : List ℕ → Simple → List ℕ → Type 0) (text : List ℕ) (simples : List Simple) (rest : List ℕ) : Type 0 where
  typed : (first : Simple) (middle : List ℕ) (others : List Simple) → FirstIs text first middle → RowIs Simple Is middle others rest → begins is_mark rest ≡ false → simples ≡ first ∷ others → CompoundIs Is text simples rest
  untyped : (first : Simple) (others : List Simple) → RowIs Simple Is text (first ∷ others) rest → begins is_mark rest ≡ false → simples ≡ first ∷ others → CompoundIs Is text simples rest

-- a simple that may stand anywhere; the compound of a `:not` has no `:not`
pub data SimpleIs (text : List ℕ) (simple : Simple) (rest : List ℕ) : Type 0 where
  plain : PlainIs text simple rest → SimpleIs text simple rest
  negated : (inside start : List ℕ) (simples : List Simple) (end : List ℕ) → PseudoIs text (codes "not") (40 ∷ inside) → WhiteIs inside start → CompoundIs PlainIs start simples end → WhiteIs end (41 ∷ rest) → simple ≡ Not simples → SimpleIs text simple rest

-- '>', '+' and '~'
pub data SignIs : ℕ → Combinator → Type 0 where
  child : SignIs 62 Child
  next : SignIs 43 Next
  later : SignIs 126 Later

-- white space alone, at least one, or a sign with white space around it
pub data CombinatorIs (text : List ℕ) (combinator : Combinator) (rest : List ℕ) : Type 0 where
  blank : (c : ℕ) (middle : List ℕ) → text ≡ c ∷ middle → is_white c ≡ true → WhiteIs middle rest → combinator ≡ Descendant → CombinatorIs text combinator rest
  sign : (c : ℕ) (middle : List ℕ) → WhiteIs text (c ∷ middle) → SignIs c combinator → WhiteIs middle rest → CombinatorIs text combinator rest

-- a combinator and the compound on its right
pub record JoinIs (text : List ℕ) (join : Combinator × List Simple) (rest : List ℕ) : Type 0 where
  pub start : List ℕ
  pub combinator : CombinatorIs text join.0 start
  pub compound : CompoundIs SimpleIs start join.1 rest

-- compounds joined by combinators
pub record ComplexIs (text : List ℕ) (complex : Complex) (rest : List ℕ) : Type 0 where
  pub middle : List ℕ
  pub first : CompoundIs SimpleIs text complex.first middle
  pub joins : RowIs (Combinator × List Simple) JoinIs middle complex.rest rest

-- nothing, or a ',' in front
abbrev pub is_end : List ℕ → Bool
is_end [] = true
is_end (c ∷ text) = c == 44

-- an alternative with white space around it, up to the next or the end
pub record AlternativeIs (text : List ℕ) (complex : Complex) (rest : List ℕ) : Type 0 where
  pub start : List ℕ
  pub end : List ℕ
  pub before : WhiteIs text start
  pub complex_is : ComplexIs start complex end
  pub after : WhiteIs end rest
  pub ends : is_end rest ≡ true

-- a ',' and an alternative
pub record FurtherIs (text : List ℕ) (complex : Complex) (rest : List ℕ) : Type 0 where
  pub middle : List ℕ
  pub text_is : text ≡ 44 ∷ middle
  pub alternative : AlternativeIs middle complex rest

-- the text is this selector; one with U+0000 is none
pub record GrammarIs (text : List ℕ) (selector : List Complex) : Type 0 where
  pub first : Complex
  pub others : List Complex
  pub middle : List ℕ
  pub no_zero : list_any (λ c. c == 0) text ≡ false
  pub first_is : AlternativeIs text first middle
  pub others_are : RowIs Complex FurtherIs middle others []
  pub selector_is : selector ≡ first ∷ others

-- no selector is the text, or there was no memory
abbrev pub IsCause : List ℕ → SelFault → Type 0
IsCause text Invalid = (selector : List Complex) → GrammarIs text selector → ⊥
IsCause text Memory = Unit {0}

-- no text is two selectors
abbrev pub OneSelector : Type 0
OneSelector = (text : List ℕ) (one other : List Complex) → GrammarIs text one → GrammarIs text other → one ≡ other
