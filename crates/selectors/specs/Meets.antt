-- When an element meets a simple selector, and when it meets a compound.
use Rattle.std.specs.Prelude.{ℕ, ◌+◌, Bool, true, false, not, ◌&&◌, ◌==◌, List, Option, Some, None, length, codes}
use Rattle.std.specs.List.{list_all}
use Rattle.std.specs.Str.{chars}
use Rattle.page_tree.specs.Places.{kids_of}
use Rattle.page_tree.specs.Rows.{Rows, tag_of, text_of, attribute_of, is_element}
use Rattle.selectors.specs.Texts.{has_text, names_word, fits_tag}
use Rattle.selectors.specs.Passes.{has_attribute, attribute_passes}
use Rattle.selectors.specs.Siblings.{earlier, later}
use Rattle.selectors.specs.Forms.{is_control, is_disabled, is_checked}
use Rattle.selectors.specs.Nth.{is_nth}
use Rattle.selectors.specs.declared.selector.Simple.{Simple, out-Simple}
use Rattle.selectors.specs.declared.selector.Simple.TheOpen.{Simple-F}

abbrev pub has_characters : Option (List ℕ) → Bool
has_characters None = false
has_characters (Some text) = not (length text == 0)

-- neither an element nor a text that isn't empty
abbrev pub is_blank : Rows → ℕ → Bool
is_blank rows n = not (is_element rows n) && not (has_characters (text_of rows n))

-- the place among the sibling elements, from 1; the top of a tree is its own only sibling
abbrev pub place : Rows → ℕ → ℕ
place rows n = length (earlier rows n) + 1

-- an element meets a simple selector; the meaning of a Not, which stands in no other Not, is below
abbrev pub plain_step : {A : Type 0} → Rows → ℕ → Simple-F A → Bool
plain_step rows n (Simple-F.Tag text) = fits_tag text (tag_of rows n)
plain_step rows n Simple-F.Any = true
plain_step rows n (Simple-F.Id text) = has_text text (attribute_of rows n (chars (codes "id")))
plain_step rows n (Simple-F.Class word) = names_word word (attribute_of rows n (chars (codes "class")))
plain_step rows n (Simple-F.Has name) = has_attribute rows n name
plain_step rows n (Simple-F.Attr name test text) = attribute_passes rows n name test text
plain_step rows n (Simple-F.Not simples) = false
plain_step rows n Simple-F.FirstChild = length (earlier rows n) == 0
plain_step rows n Simple-F.LastChild = length (later rows n) == 0
plain_step rows n (Simple-F.Nth a b) = is_nth a b (place rows n)
plain_step rows n Simple-F.Empty = list_all (is_blank rows) (kids_of rows.kids n)
plain_step rows n Simple-F.Root = n == 0
plain_step rows n Simple-F.Checked = is_checked rows n
plain_step rows n Simple-F.Enabled = is_control rows n && not (is_disabled rows n)
plain_step rows n Simple-F.Disabled = is_disabled rows n

abbrev pub meets_plain : Rows → ℕ → Simple → Bool
meets_plain rows n simple = plain_step rows n (out-Simple simple)

abbrev pub meets_step : Rows → ℕ → Simple-F Simple → Bool
meets_step rows n (Simple-F.Not simples) = not (list_all (meets_plain rows n) simples)
meets_step rows n step = plain_step rows n step

abbrev pub meets : Rows → ℕ → Simple → Bool
meets rows n simple = meets_step rows n (out-Simple simple)

-- an element that meets each of the simples
abbrev pub meets_all : Rows → List Simple → ℕ → Bool
meets_all rows simples n = is_element rows n && list_all (meets rows n) simples
