-- What can be seen of a page: which nodes are shown, and which elements are displayed.
use Rattle.std.specs.Prelude.{ℕ, zero, suc, pos, int_le, Bool, false, not, ◌&&◌, ◌||◌, List, drop, Option, Some, None, is_some, is_none, codes, if◌then◌else◌}
use Rattle.std.specs.List.{list_any, find}
use Rattle.std.specs.Option.{unwrap_or}
use Rattle.std.specs.Str.{chars, bytes_eq}
use Rattle.page_tree.specs.Attributes.{value_of}
use Rattle.page_tree.specs.Places.{kids_of, lineage, max_depth}
use Rattle.page_tree.specs.Rows.{Rows, kind_tag, content_at, pixels_at, is_element, is_connected}
use Rattle.page_tree.specs.declared.content.Content.{Content}
use Rattle.page_tree.specs.declared.geometry.PixelBox.{PixelBox}

-- ---- shown

-- a tag or an attribute that is there and is exactly this text
abbrev pub has_text : List ℕ → Option (List ℕ) → Bool
has_text text None = false
has_text text (Some value) = bytes_eq value text

-- an element with exactly this tag
abbrev pub has_tag : List ℕ → Content → Bool
has_tag tag content = has_text (chars tag) (kind_tag (Some content.kind))

-- an element of a kind that is never shown
abbrev pub is_unseen : Content → Bool
is_unseen content =
    has_tag (codes "head") content || has_tag (codes "title") content || has_tag (codes "script") content || has_tag (codes "style") content
    || has_tag (codes "meta") content || has_tag (codes "link") content || has_tag (codes "template") content || has_tag (codes "noscript") content

abbrev pub is_hidden_input : Content → Bool
is_hidden_input content = has_tag (codes "input") content && has_text (chars (codes "hidden")) (value_of (chars (codes "type")) content.attributes)

-- what is hidden, with all that stands under it
abbrev pub is_concealed : Content → Bool
is_concealed content = content.hidden || is_some (value_of (chars (codes "hidden")) content.attributes) || is_hidden_input content || is_unseen content

abbrev pub hides : Rows → ℕ → Bool
hides rows n = is_concealed (content_at rows n)

-- connected, and neither the node nor what is above it, through hosts, is hidden
abbrev pub is_shown : Rows → ℕ → Bool
is_shown rows n = is_connected rows n && not (list_any (hides rows) (lineage rows.ups n))

-- ---- displayed

abbrev pub is_choice : Rows → ℕ → Bool
is_choice rows n = has_tag (codes "option") (content_at rows n) || has_tag (codes "optgroup") (content_at rows n)

abbrev pub is_select : Rows → ℕ → Bool
is_select rows n = has_tag (codes "select") (content_at rows n)

-- the nearest select above a node, through hosts
abbrev pub select_above : Rows → ℕ → Option ℕ
select_above rows n = find (is_select rows) (drop 1 (lineage rows.ups n))

-- the select that an option or optgroup stands inside
abbrev pub select_of : Rows → ℕ → Option ℕ
select_of rows n = if is_choice rows n then select_above rows n else None

-- a child that counts: an element, but no option or optgroup inside a select
abbrev pub is_part : Rows → ℕ → Bool
is_part rows n = is_element rows n && is_none (select_of rows n)

-- at least one pixel wide and high
abbrev pub has_pixels : Option PixelBox → Bool
has_pixels None = false
has_pixels (Some pixels) = int_le (pos 1) pixels.w && int_le (pos 1) pixels.h

-- shown, and has a box with pixels or a child that counts and is seen, in at most so many levels
unfoldable pub is_seen : ℕ → Rows → ℕ → Bool
is_seen zero rows n = false
is_seen (suc levels) rows n = is_shown rows n && (has_pixels (pixels_at rows n) || list_any (λ k. is_part rows k && is_seen levels rows k) (kids_of rows.kids n))

-- an option or optgroup inside a select is displayed where the nearest select is, and any other node where it is seen
abbrev pub is_displayed : Rows → ℕ → Bool
is_displayed rows n = is_seen max_depth rows (unwrap_or (select_of rows n) n)
