-- Texts, words and tags: characters are compared exactly, but for the tag of a type selector, which is compared without regard to ASCII case.
use Rattle.std.specs.Prelude.{ℕ, Bool, false, not, ◌&&◌, ◌||◌, ◌==◌, List, Option, Some, None, length}
use Rattle.std.specs.List.{list_any, slice_split}
use Rattle.std.specs.Str.{bytes_eq, encode_utf8_all, str_eq_ignore_ascii_case}
use Rattle.page_tree.specs.Rows.{Rows, tag_of}

-- an attribute or a tag that is there and is this text
abbrev pub has_text : List ℕ → Option (List ℕ) → Bool
has_text text None = false
has_text text (Some value) = bytes_eq value text

-- text in UTF-8
abbrev pub spells : List ℕ → Option (List ℕ) → Bool
spells text None = false
spells text (Some value) = bytes_eq (encode_utf8_all value) text

-- an element with exactly this tag
unfoldable pub is_tag : Rows → ℕ → List ℕ → Bool
is_tag rows n tag = spells tag (tag_of rows n)

-- space, tab, LF, FF, CR
abbrev pub is_space : ℕ → Bool
is_space b = (b == 32) || (b == 9) || (b == 10) || (b == 12) || (b == 13)

abbrev pub parts_have : List ℕ → List ℕ → Bool
parts_have word value = list_any (λ part. bytes_eq part word) (slice_split is_space value)

-- of texts in UTF-8: the word is one of those that white space parts; an empty word is none
abbrev pub has_word : List ℕ → List ℕ → Bool
has_word word value = not (length word == 0) && parts_have word value

abbrev pub names_word : List ℕ → Option (List ℕ) → Bool
names_word word None = false
names_word word (Some value) = has_word (encode_utf8_all word) (encode_utf8_all value)

-- a tag without regard to ASCII case
abbrev pub fits_tag : List ℕ → Option (List ℕ) → Bool
fits_tag text None = false
fits_tag text (Some tag) = str_eq_ignore_ascii_case (encode_utf8_all tag) (encode_utf8_all text)
