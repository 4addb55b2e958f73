-- What a find gives.
use Rattle.std.specs.Prelude.{◌≡◌, ℕ, Bool, true, false, ◌&&◌, ◌||◌, List, Option, Some, None, codes, filter}
use Rattle.std.specs.Str.{bytes_eq, encode_utf8_all}
use Rattle.page_tree.specs.Rows.{Rows, tag_of, is_element}
use Rattle.selectors.specs.Grammar.{GrammarIs, IsCause}
use Rattle.selectors.specs.Named.{in_scope, selected, is_named as is_named_by}
use Rattle.selectors.specs.Passes.{holds}
use Rattle.selectors.specs.Texts.{fits_tag}
use Rattle.selectors.specs.declared.selector.Complex.{Complex}
use Rattle.selectors.specs.declared.selector.Scope.{Scope}
use Rattle.selectors.specs.declared.fault.SelFault.{SelFault}
use Rattle.selectors.specs.declared.fault.SelFault.TheVariants.{Memory}
use Rattle.interaction.specs.RenderedText.{is_word, rendered_text}
use Rattle.interaction.specs.declared.by.By.{By}
use Rattle.interaction.specs.declared.by.By.TheVariants.{Css, Link, PartialLink, Tag}
use Rattle.interaction.specs.declared.by.Words.{Words}
use Rattle.interaction.specs.declared.by.Words.TheVariants as words

abbrev pub is_a : Option (List ℕ) → Bool
is_a None = false
is_a (Some tag) = is_word (codes "a") tag

-- a link whose rendered text is this text
abbrev pub is_link : Rows → List ℕ → ℕ → Bool
is_link rows text n = is_a (tag_of rows n) && bytes_eq (rendered_text rows n) text

-- a link in whose rendered text this text stands
abbrev pub is_partial_link : Rows → List ℕ → ℕ → Bool
is_partial_link rows text n = is_a (tag_of rows n) && holds (encode_utf8_all text) (encode_utf8_all (rendered_text rows n))

-- an element with this tag, without regard to ASCII case; each element for `*`
abbrev pub is_tagged : Rows → List ℕ → ℕ → Bool
is_tagged rows text n = is_element rows n && (is_word (codes "*") text || fits_tag text (tag_of rows n))

abbrev pub is_named : Rows → Words → List ℕ → ℕ → Bool
is_named rows words.Link text n = is_link rows text n
is_named rows words.PartialLink text n = is_partial_link rows text n
is_named rows words.Tag text n = is_tagged rows text n

-- the named nodes of the scope, in document order
abbrev pub named : Rows → Scope → Words → List ℕ → List ℕ
named rows scope words text = filter (is_named rows words text) (in_scope rows scope)

-- the nodes of the scope that are found by that text
unfoldable pub Finds : Rows → Scope → By → List ℕ → List ℕ → Type 0
Finds rows scope Css text nodes = (selector : List Complex) × GrammarIs text selector × (nodes ≡ selected rows scope selector)
Finds rows scope Link text nodes = nodes ≡ named rows scope words.Link text
Finds rows scope PartialLink text nodes = nodes ≡ named rows scope words.PartialLink text
Finds rows scope Tag text nodes = nodes ≡ named rows scope words.Tag text

-- a node that is found by that text, wherever it stands
unfoldable pub IsFound : Rows → By → List ℕ → ℕ → Type 0
IsFound rows Css text n = (selector : List Complex) × GrammarIs text selector × (is_named_by rows selector n ≡ true)
IsFound rows Link text n = is_link rows text n ≡ true
IsFound rows PartialLink text n = is_partial_link rows text n ≡ true
IsFound rows Tag text n = is_tagged rows text n ≡ true

-- only a text that is to be a selector may be none
unfoldable pub Refuses : By → List ℕ → SelFault → Type 0
Refuses Css text fault = IsCause text fault
Refuses Link text fault = fault ≡ Memory
Refuses PartialLink text fault = fault ≡ Memory
Refuses Tag text fault = fault ≡ Memory
