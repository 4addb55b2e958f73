-- How a selector is printed.
use Rattle.std.specs.Prelude.{ℕ, List, [], ◌∷◌, ◌++◌, codes}
use Rattle.std.specs.List.{flat_map}
use Rattle.selectors.specs.Grammar.{test_text}
use Rattle.selectors.specs.Printing.{printed_identifier, printed_string, printed_step}
use Rattle.selectors.specs.declared.selector.Simple.{Simple, out-Simple}
use Rattle.selectors.specs.declared.selector.Simple.TheOpen.{Simple-F}
use Rattle.selectors.specs.declared.selector.Combinator.{Combinator}
use Rattle.selectors.specs.declared.selector.Combinator.TheVariants.{Descendant, Child, Next, Later}
use Rattle.selectors.specs.declared.selector.Complex.{Complex}

-- a simple; the text of a `:not`, which stands in no other, is below
abbrev pub plain_text : {A : Type 0} → Simple-F A → List ℕ
plain_text (Simple-F.Tag text) = printed_identifier text
plain_text Simple-F.Any = codes "*"
plain_text (Simple-F.Id text) = 35 ∷ printed_identifier text
plain_text (Simple-F.Class word) = 46 ∷ printed_identifier word
plain_text (Simple-F.Has name) = 91 ∷ printed_identifier name ++ codes "]"
plain_text (Simple-F.Attr name test text) = 91 ∷ printed_identifier name ++ test_text test ++ printed_string text ++ codes "]"
plain_text (Simple-F.Not simples) = []
plain_text Simple-F.FirstChild = codes ":first-child"
plain_text Simple-F.LastChild = codes ":last-child"
plain_text (Simple-F.Nth a b) = codes ":nth-child(" ++ printed_step a b ++ codes ")"
plain_text Simple-F.Empty = codes ":empty"
plain_text Simple-F.Root = codes ":root"
plain_text Simple-F.Checked = codes ":checked"
plain_text Simple-F.Enabled = codes ":enabled"
plain_text Simple-F.Disabled = codes ":disabled"

abbrev pub printed_plain : Simple → List ℕ
printed_plain simple = plain_text (out-Simple simple)

abbrev pub simple_text : Simple-F Simple → List ℕ
simple_text (Simple-F.Not simples) = codes ":not(" ++ flat_map printed_plain simples ++ codes ")"
simple_text step = plain_text step

abbrev pub printed_simple : Simple → List ℕ
printed_simple simple = simple_text (out-Simple simple)

abbrev pub printed_compound : List Simple → List ℕ
printed_compound simples = flat_map printed_simple simples

abbrev pub combinator_text : Combinator → List ℕ
combinator_text Descendant = codes " "
combinator_text Child = codes " > "
combinator_text Next = codes " + "
combinator_text Later = codes " ~ "

abbrev pub printed_join : Combinator × List Simple → List ℕ
printed_join join = combinator_text join.0 ++ printed_compound join.1

abbrev pub printed_complex : Complex → List ℕ
printed_complex complex = printed_compound complex.first ++ flat_map printed_join complex.rest

-- an alternative behind another
abbrev pub printed_next : Complex → List ℕ
printed_next complex = codes ", " ++ printed_complex complex

abbrev pub printed_selector : List Complex → List ℕ
printed_selector [] = []
printed_selector (complex ∷ selector) = printed_complex complex ++ flat_map printed_next selector
