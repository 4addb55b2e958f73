-- The value and the checked state that each node has when its page is opened.
use Rattle.std.specs.Prelude.{ℕ, Bool, false, ◌||◌, List, [], Option, Some, None, length, is_some, codes, if◌then◌else◌}
use Rattle.std.specs.Str.{bytes_eq}
use Rattle.page_tree.specs.Rows.{Rows, is_element, is_element_kind, tag_of, attribute_of, content_at}
use Rattle.page_tree.specs.Texts.{texts_below, or_nothing}
use Rattle.page_tree.specs.declared.content.Content.{Content}
use Rattle.page_engine.specs.Opening.{for_each}
use Rattle.page_engine.specs.declared.first.First.{First}

-- an attribute or a tag that is there and is this text
abbrev pub has_text : List ℕ → Option (List ℕ) → Bool
has_text text None = false
has_text text (Some other) = bytes_eq other text

-- `contenteditable` is empty or `true`
abbrev pub is_editable_content : Rows → ℕ → Bool
is_editable_content rows n =
    has_text (codes "") (attribute_of rows n (codes "contenteditable")) || has_text (codes "true") (attribute_of rows n (codes "contenteditable"))

-- the attribute `value` of an input; the texts below a textarea or editable content
abbrev pub first_value : Rows → ℕ → List ℕ
first_value rows n =
    if has_text (codes "input") (tag_of rows n) then or_nothing (attribute_of rows n (codes "value"))
    else (if has_text (codes "textarea") (tag_of rows n) || is_editable_content rows n then texts_below rows n else [])

-- the attribute `checked` or `selected` stands
abbrev pub first_checked : Rows → ℕ → Bool
first_checked rows n = is_some (attribute_of rows n (codes "checked")) || is_some (attribute_of rows n (codes "selected"))

-- only elements have them
abbrev pub first_at : Rows → ℕ → First
first_at rows n = if is_element rows n then record { value = first_value rows n; checked = first_checked rows n } else record { value = []; checked = false }

abbrev pub firsts_of : Rows → List First
firsts_of rows = for_each (first_at rows) (length rows.contents)

-- an element with its first value and checked state
abbrev pub started : First → Content → Content
started first content = if is_element_kind (Some content.kind) then record content { value = first.value; checked = first.checked } else content

abbrev pub started_at : Rows → ℕ → Content
started_at rows n = started (first_at rows n) (content_at rows n)

abbrev pub with_firsts : Rows → Rows
with_firsts rows = record rows { contents = for_each (started_at rows) (length rows.contents) }
