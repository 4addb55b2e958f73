-- The kinds of a JSON value that page files are made of.
use Rattle.std.specs.Prelude.{ℕ, ℤ, ◌^◌, ◌-◌, pos, nat_lt, Bool, List, [], ◌∷◌, Option, Some, None, if◌then◌else◌}
use Rattle.std.specs.Option.{option_map, option_and_then}
use Rattle.page_engine.specs.Fitting.{is_within, is_up_to, is_wait}
use Rattle.page_tree.specs.declared.geometry.PixelBox.{PixelBox}
use Rattle.wd_json.specs.declared.value.Json.{Json, out-Json}
use Rattle.wd_json.specs.declared.value.Json.TheOpen.{Json-F}

abbrev text_in : {A : Type 0} → Json-F A → Option (List ℕ)
text_in (Json-F.Text t) = Some t
text_in v = None

-- the characters of a text
abbrev pub text_of : Json → Option (List ℕ)
text_of v = text_in (out-Json v)

abbrev optional_text_in : {A : Type 0} → Json-F A → Option (Option (List ℕ))
optional_text_in (Json-F.Text t) = Some (Some t)
optional_text_in Json-F.Null = Some None
optional_text_in v = None

-- a text or null
abbrev pub optional_text_of : Json → Option (Option (List ℕ))
optional_text_of v = optional_text_in (out-Json v)

abbrev bool_in : {A : Type 0} → Json-F A → Option Bool
bool_in (Json-F.Bool b) = Some b
bool_in v = None

abbrev pub bool_of : Json → Option Bool
bool_of v = bool_in (out-Json v)

abbrev list_in : {A : Type 0} → Json-F A → Option (List A)
list_in (Json-F.List vs) = Some vs
list_in v = None

abbrev pub list_of : Json → Option (List Json)
list_of v = list_in (out-Json v)

abbrev number_in : {A : Type 0} → Json-F A → Option ℕ
number_in (Json-F.Int (pos n)) = if nat_lt n (2 ^ 32) then Some n else None
number_in v = None

-- a node or a place: 0 to 2^32 - 1
abbrev pub number_of : Json → Option ℕ
number_of v = number_in (out-Json v)

abbrev optional_number_in : {A : Type 0} → Json-F A → Option (Option ℕ)
optional_number_in Json-F.Null = Some None
optional_number_in (Json-F.Int (pos n)) = if nat_lt n (2 ^ 32) then Some (Some n) else None
optional_number_in v = None

-- a node or null
abbrev pub optional_number_of : Json → Option (Option ℕ)
optional_number_of v = optional_number_in (out-Json v)

abbrev wait_in : {A : Type 0} → Json-F A → Option ℕ
wait_in (Json-F.Int (pos n)) = if is_wait n then Some n else None
wait_in v = None

-- milliseconds that a timer may wait
abbrev pub wait_of : Json → Option ℕ
wait_of v = wait_in (out-Json v)

abbrev within_in : {A : Type 0} → ℕ → Json-F A → Option ℤ
within_in most (Json-F.Int z) = if is_within most z then Some z else None
within_in most v = None

-- a number within plus or minus so much
abbrev pub within_of : ℕ → Json → Option ℤ
within_of most v = within_in most (out-Json v)

abbrev whole_in : {A : Type 0} → Json-F A → Option ℤ
whole_in (Json-F.Int z) = if is_within (2 ^ 53 - 1) z then Some z else None
whole_in v = None

-- a number within plus or minus 2^53 - 1
abbrev pub whole_of : Json → Option ℤ
whole_of v = whole_in (out-Json v)

abbrev up_to_in : {A : Type 0} → ℕ → Json-F A → Option ℤ
up_to_in most (Json-F.Int z) = if is_up_to most z then Some z else None
up_to_in most v = None

-- a number from 0 to so much
abbrev pub up_to_of : ℕ → Json → Option ℤ
up_to_of most v = up_to_in most (out-Json v)

abbrev pub corner_and_size : List Json → Option PixelBox
corner_and_size (x ∷ y ∷ w ∷ h ∷ []) =
    option_and_then (λ x. option_and_then (λ y. option_and_then (λ w. option_map (λ h.
    record { x = x; y = y; w = w; h = h })
    (up_to_of 1000000 h))
    (up_to_of 1000000 w))
    (within_of 1000000 y))
    (within_of 1000000 x)
corner_and_size values = None

-- `[x,y,w,h]`
abbrev pub box_of : Json → Option PixelBox
box_of v = option_and_then corner_and_size (list_of v)

abbrev optional_box_in : Json-F Json → Option (Option PixelBox)
optional_box_in Json-F.Null = Some None
optional_box_in (Json-F.List vs) = option_map Some (corner_and_size vs)
optional_box_in v = None

-- a box or null
abbrev pub optional_box_of : Json → Option (Option PixelBox)
optional_box_of v = optional_box_in (out-Json v)
