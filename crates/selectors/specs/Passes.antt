-- When the value of an attribute passes a test, and which attributes have a name. Texts are in UTF-8.
use Rattle.std.specs.Prelude.{ℕ, Bool, not, ◌&&◌, ◌||◌, ◌==◌, List, [], ◌∷◌, length, nat_eq, slice_index}
use Rattle.std.specs.List.{list_any, starts_with, ends_with}
use Rattle.std.specs.Str.{bytes_eq, encode_utf8_all, str_eq_ignore_ascii_case}
use Rattle.page_tree.specs.Rows.{Rows, attributes_at}
use Rattle.selectors.specs.Texts.{has_word}
use Rattle.selectors.specs.declared.selector.Test.{Test}
use Rattle.selectors.specs.declared.selector.Test.TheVariants.{Equal, Word, Dash, Starts, Ends, Holds}

-- the text stands somewhere in the value
abbrev pub holds : List ℕ → List ℕ → Bool
holds text [] = starts_with nat_eq [] text
holds text (b ∷ value) = starts_with nat_eq (b ∷ value) text || holds text value

-- it is the text, or begins with the text and a '-', which is 45
abbrev pub is_dashed : List ℕ → List ℕ → Bool
is_dashed text value = bytes_eq value text || (starts_with nat_eq value text && slice_index value (length text) == 45)

abbrev pub passes : Test → List ℕ → List ℕ → Bool
passes Equal text value = bytes_eq value text
passes Word text value = has_word text value
passes Dash text value = is_dashed text value
passes Starts text value = not (length text == 0) && starts_with nat_eq value text
passes Ends text value = not (length text == 0) && ends_with nat_eq value text
passes Holds text value = not (length text == 0) && holds text value

abbrev pub is_named_like : List ℕ → List ℕ × List ℕ → Bool
is_named_like name attribute = str_eq_ignore_ascii_case (encode_utf8_all attribute.0) (encode_utf8_all name)

abbrev pub value_passes : Test → List ℕ → List ℕ × List ℕ → Bool
value_passes test text attribute = passes test (encode_utf8_all text) (encode_utf8_all attribute.1)

-- some attribute has this name, without regard to ASCII case
abbrev pub has_attribute : Rows → ℕ → List ℕ → Bool
has_attribute rows n name = list_any (is_named_like name) (attributes_at rows n)

-- some attribute of this name, without regard to ASCII case, passes the test
abbrev pub attribute_passes : Rows → ℕ → List ℕ → Test → List ℕ → Bool
attribute_passes rows n name test text = list_any (λ attribute. is_named_like name attribute && value_passes test text attribute) (attributes_at rows n)
