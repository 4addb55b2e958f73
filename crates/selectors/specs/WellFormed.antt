-- The selectors of the profile: which conditions, compounds and alternatives may stand together.
use Rattle.std.specs.Prelude.{Bool, true, false, not, ◌&&◌, List, [], ◌∷◌}
use Rattle.std.specs.List.{list_all, list_any}
use Rattle.selectors.specs.Texted.{is_text, is_name, is_small}
use Rattle.selectors.specs.declared.selector.Simple.{Simple, out-Simple}
use Rattle.selectors.specs.declared.selector.Simple.TheOpen.{Simple-F}
use Rattle.selectors.specs.declared.selector.Combinator.{Combinator}
use Rattle.selectors.specs.declared.selector.Complex.{Complex}

abbrev pub plain_of : {A : Type 0} → Simple-F A → Bool
plain_of (Simple-F.Tag text) = is_name text
plain_of Simple-F.Any = true
plain_of (Simple-F.Id text) = is_name text
plain_of (Simple-F.Class word) = is_name word
plain_of (Simple-F.Has name) = is_name name
plain_of (Simple-F.Attr name test text) = is_name name && is_text text
plain_of (Simple-F.Not simples) = false
plain_of Simple-F.FirstChild = true
plain_of Simple-F.LastChild = true
plain_of (Simple-F.Nth a b) = is_small a && is_small b
plain_of Simple-F.Empty = true
plain_of Simple-F.Root = true
plain_of Simple-F.Checked = true
plain_of Simple-F.Enabled = true
plain_of Simple-F.Disabled = true

abbrev pub is_plain : Simple → Bool
is_plain simple = plain_of (out-Simple simple)

abbrev pub first_only_of : {A : Type 0} → Simple-F A → Bool
first_only_of (Simple-F.Tag text) = true
first_only_of Simple-F.Any = true
first_only_of other = false

-- a tag and `*` stand first only
abbrev pub is_first_only : Simple → Bool
is_first_only simple = first_only_of (out-Simple simple)

-- at least one simple, each a good one
abbrev pub is_compound_of : (Simple → Bool) → List Simple → Bool
is_compound_of is_good [] = false
is_compound_of is_good (simple ∷ simples) = is_good simple && list_all is_good simples && not (list_any is_first_only simples)

-- the compound of a Not has no Not
abbrev pub simple_of : Simple-F Simple → Bool
simple_of (Simple-F.Not simples) = is_compound_of is_plain simples
simple_of other = plain_of other

abbrev pub is_simple : Simple → Bool
is_simple simple = simple_of (out-Simple simple)

abbrev pub is_compound : List Simple → Bool
is_compound simples = is_compound_of is_simple simples

abbrev pub is_joined : Combinator × List Simple → Bool
is_joined join = is_compound join.1

abbrev pub is_complex : Complex → Bool
is_complex complex = is_compound complex.first && list_all is_joined complex.rest

-- at least one alternative
abbrev pub is_selector : List Complex → Bool
is_selector [] = false
is_selector (complex ∷ selector) = is_complex complex && list_all is_complex selector
