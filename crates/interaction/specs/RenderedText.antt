-- The rendered text of a node: characters and line breaks in document order, and the lines that they make.
use Rattle.std.specs.Prelude.{ℕ, zero, suc, Bool, false, ◌==◌, ◌||◌, List, [], ◌∷◌, ◌++◌, Option, Some, None, is_none, codes, map, filter, if◌then◌else◌}
use Rattle.std.specs.List.{flat_map}
use Rattle.std.specs.Str.{chars, bytes_eq}
use Rattle.page_tree.specs.Places.{only, kids_of, max_depth}
use Rattle.page_tree.specs.Rows.{Rows, tag_of, text_of}
use Rattle.page_tree.specs.Display.{is_shown}
use Rattle.interaction.specs.Parts.{parts, has_some, joined}

-- a character, or a line break
abbrev pub Mark : Type 0
Mark = Option ℕ

-- ---- which elements break a line

abbrev pub is_word : List ℕ → List ℕ → Bool
is_word word text = bytes_eq text (chars word)

abbrev pub is_heading : List ℕ → Bool
is_heading tag = is_word (codes "h1") tag || is_word (codes "h2") tag || is_word (codes "h3") tag || is_word (codes "h4") tag || is_word (codes "h5") tag || is_word (codes "h6") tag

abbrev pub is_section : List ℕ → Bool
is_section tag =
    is_word (codes "address") tag || is_word (codes "article") tag || is_word (codes "aside") tag || is_word (codes "body") tag || is_word (codes "footer") tag
    || is_word (codes "header") tag || is_word (codes "html") tag || is_word (codes "main") tag || is_word (codes "nav") tag || is_word (codes "section") tag

abbrev pub is_group : List ℕ → Bool
is_group tag = is_word (codes "blockquote") tag || is_word (codes "div") tag || is_word (codes "p") tag || is_word (codes "pre") tag

abbrev pub is_list_part : List ℕ → Bool
is_list_part tag = is_word (codes "dd") tag || is_word (codes "dl") tag || is_word (codes "dt") tag || is_word (codes "li") tag || is_word (codes "ol") tag || is_word (codes "ul") tag

abbrev pub is_table_part : List ℕ → Bool
is_table_part tag = is_word (codes "table") tag || is_word (codes "td") tag || is_word (codes "th") tag || is_word (codes "tr") tag

abbrev pub is_form_part : List ℕ → Bool
is_form_part tag = is_word (codes "fieldset") tag || is_word (codes "form") tag || is_word (codes "option") tag

-- the tags of the elements that stand on lines of their own
abbrev pub is_block_tag : List ℕ → Bool
is_block_tag tag = is_heading tag || is_section tag || is_group tag || is_list_part tag || is_table_part tag || is_form_part tag

abbrev pub breaks_before : Option (List ℕ) → Bool
breaks_before None = false
breaks_before (Some tag) = is_word (codes "br") tag || is_block_tag tag

abbrev pub breaks_after : Option (List ℕ) → Bool
breaks_after None = false
breaks_after (Some tag) = is_block_tag tag

abbrev pub break_if : Bool → List Mark
break_if b = if b then None ∷ [] else []

-- ---- characters and breaks in document order

abbrev pub characters : Option (List ℕ) → List Mark
characters None = []
characters (Some text) = map Some text

abbrev pub shown_kids : Rows → ℕ → List ℕ
shown_kids rows n = filter (is_shown rows) (kids_of rows.kids n)

-- of the node and what is below it, shadow trees and what isn't shown left out, in at most so many levels
unfoldable pub marks : ℕ → Rows → ℕ → List Mark
marks zero rows n = []
marks (suc levels) rows n = ((break_if (breaks_before (tag_of rows n)) ++ characters (text_of rows n)) ++ flat_map (marks levels rows) (shown_kids rows n)) ++ break_if (breaks_after (tag_of rows n))

-- ---- lines

-- space, tab, LF, FF, CR
abbrev pub is_blank : ℕ → Bool
is_blank c = (c == 32) || (c == 9) || (c == 10) || (c == 12) || (c == 13)

-- the words of a line with one space between each two
abbrev pub squeezed : List ℕ → List ℕ
squeezed line = joined 32 (filter has_some (parts is_blank line))

-- the characters between the breaks
abbrev pub lines : List Mark → List (List ℕ)
lines marks = map (flat_map only) (parts is_none marks)

-- the lines that aren't empty once they are squeezed, with an LF between each two
abbrev pub in_lines : List Mark → List ℕ
in_lines marks = joined 10 (filter has_some (map squeezed (lines marks)))

-- nothing where the node isn't shown
unfoldable pub rendered_text : Rows → ℕ → List ℕ
rendered_text rows n = if is_shown rows n then in_lines (marks max_depth rows n) else []
