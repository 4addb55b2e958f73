-- Which elements can be disabled, which are, and which are checked.
use Rattle.std.specs.Prelude.{ℕ, List, Bool, ◌&&◌, ◌||◌, codes, is_some}
use Rattle.std.specs.List.{list_any}
use Rattle.std.specs.Str.{chars}
use Rattle.page_tree.specs.Rows.{Rows, attribute_of, checked_at}
use Rattle.selectors.specs.Texts.{is_tag, has_text}
use Rattle.selectors.specs.Siblings.{above}

abbrev pub has_disabled : Rows → ℕ → Bool
has_disabled rows n = is_some (attribute_of rows n (chars (codes "disabled")))

abbrev pub is_option : Rows → ℕ → Bool
is_option rows n = is_tag rows n (codes "option")

abbrev pub is_fieldset : Rows → ℕ → Bool
is_fieldset rows n = is_tag rows n (codes "fieldset")

-- what holds options
abbrev pub is_select : Rows → ℕ → Bool
is_select rows n = is_tag rows n (codes "select") || is_tag rows n (codes "optgroup")

-- what a disabled fieldset disables
abbrev pub is_listed : Rows → ℕ → Bool
is_listed rows n = is_tag rows n (codes "button") || is_tag rows n (codes "input") || is_tag rows n (codes "textarea") || is_select rows n || is_option rows n

-- what can be disabled
abbrev pub is_control : Rows → ℕ → Bool
is_control rows n = is_listed rows n || is_fieldset rows n

abbrev pub is_disabled_fieldset : Rows → ℕ → Bool
is_disabled_fieldset rows n = is_fieldset rows n && has_disabled rows n

-- disabled by its attribute, or inside a disabled fieldset
abbrev pub is_switched_off : Rows → ℕ → Bool
is_switched_off rows n = is_control rows n && (has_disabled rows n || (is_listed rows n && list_any (is_disabled_fieldset rows) (above rows n)))

abbrev pub is_disabled_select : Rows → ℕ → Bool
is_disabled_select rows n = is_select rows n && is_switched_off rows n

-- or an option inside a disabled select or optgroup
abbrev pub is_disabled : Rows → ℕ → Bool
is_disabled rows n = is_switched_off rows n || (is_option rows n && list_any (is_disabled_select rows) (above rows n))

abbrev pub has_type : Rows → ℕ → List ℕ → Bool
has_type rows n type = has_text type (attribute_of rows n (chars (codes "type")))

-- what can be checked: a checkbox, a radio button, an option
abbrev pub is_checkable : Rows → ℕ → Bool
is_checkable rows n = is_option rows n || (is_tag rows n (codes "input") && (has_type rows n (chars (codes "checkbox")) || has_type rows n (chars (codes "radio"))))

abbrev pub is_checked : Rows → ℕ → Bool
is_checked rows n = is_checkable rows n && checked_at rows n
