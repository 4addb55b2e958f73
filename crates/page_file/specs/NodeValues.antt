-- Which node a JSON value spells, its handlers apart, and which handlers.
use Rattle.std.specs.Prelude.{◌≡◌, ℕ, ℤ, pos, Bool, true, false, ◌||◌, List, [], ◌∷◌, Option, Some, None, is_some, if◌then◌else◌, codes}
use Rattle.std.specs.List.{find}
use Rattle.std.specs.Option.{option_map, option_and_then}
use Rattle.std.specs.Str.{bytes_eq, encode_utf8_all}
use Rattle.page_engine.specs.Lines.{kind_name}
use Rattle.page_engine.specs.Names.{is_lower, is_tag, is_attribute_name}
use Rattle.page_engine.specs.declared.effect.Effect.{Effect}
use Rattle.page_engine.specs.declared.event.EventKind.{EventKind}
use Rattle.page_engine.specs.declared.event.EventKind.TheVariants.{PointerMove, PointerDown, PointerUp, Click, KeyDown, KeyUp, Input, Change, Focus, Blur, Submit, Reset}
use Rattle.page_engine.specs.declared.page_def.NodeDef.{NodeDef}
use Rattle.page_engine.specs.declared.page_def.NodeKind.{NodeKind}
use Rattle.page_engine.specs.declared.page_def.NodeKind.TheVariants.{Element, Chars, Shadow}
use Rattle.page_file.specs.Members.{Members, object_of, has_only, each_of, optional}
use Rattle.page_file.specs.Spelled.{effects_in}
use Rattle.page_file.specs.Values.{text_of, bool_of, optional_number_of, within_of, box_of}
use Rattle.page_tree.specs.declared.geometry.PixelBox.{PixelBox}
use Rattle.wd_json.specs.Keys.{get}
use Rattle.wd_json.specs.declared.value.Json.{Json}

-- ---- what the node is

abbrev if_tag : List ℕ → Option NodeKind
if_tag t = if is_tag t then Some (Element t) else None

-- the tag of an element
abbrev pub element_of : Json → Option NodeKind
element_of v = option_and_then if_tag (text_of v)

abbrev is_mode : List ℕ → Bool
is_mode bytes = bytes_eq bytes (codes "open") || bytes_eq bytes (codes "closed")

abbrev if_mode : List ℕ → Option NodeKind
if_mode t = if is_mode (encode_utf8_all t) then Some Shadow else None

-- `open` or `closed`, which are one
abbrev pub root_of : Json → Option NodeKind
root_of v = option_and_then if_mode (text_of v)

-- exactly one of `tag`, `text` and `shadow`
abbrev pub kind_from : Option Json → Option Json → Option Json → Option NodeKind
kind_from (Some tag) None None = element_of tag
kind_from None (Some text) None = option_map Chars (text_of text)
kind_from None None (Some shadow) = root_of shadow
kind_from tag text shadow = None

abbrev pub kind_in : Members → Option NodeKind
kind_in members = kind_from (get (codes "tag") members) (get (codes "text") members) (get (codes "shadow") members)

-- ---- for private clauses

abbrev pub begins_lower : List ℕ → Bool
begins_lower [] = false
begins_lower (c ∷ cs) = is_lower c

-- an element has a tag
abbrev pub IsTagged : NodeKind → Type 0
IsTagged (Element tag) = is_tag tag ≡ true
IsTagged (Chars text) = Unit {0}
IsTagged Shadow = Unit {0}

-- ---- where it stands

abbrev pub has_up : Members → Bool
has_up members = is_some (get (codes "up") members)

-- the node above, or none for null and where there is no such member
abbrev pub up_in : Members → Option (Option ℕ)
up_in members = optional None optional_number_of (get (codes "up") members)

-- ---- what only elements have

abbrev pub Attribute : Type 0
Attribute = List ℕ × List ℕ

abbrev pub attribute_of : List ℕ × Json → Option Attribute
attribute_of m = if is_attribute_name m.0 then option_map (λ t. (m.0, t)) (text_of m.1) else None

-- names and texts, in the order of the names
abbrev pub attributes_of : Json → Option (List Attribute)
attributes_of v = option_and_then (each_of attribute_of) (object_of v)

abbrev pub attributes_in : Members → Option (List Attribute)
attributes_in members = optional [] attributes_of (get (codes "attrs") members)

abbrev pub pixels_in : Members → Option (Option PixelBox)
pixels_in members = optional None (λ v. option_map Some (box_of v)) (get (codes "box") members)

abbrev pub layer_in : Members → Option ℤ
layer_in members = optional (pos 0) (within_of 1000) (get (codes "layer") members)

abbrev pub hidden_in : Members → Option Bool
hidden_in members = optional false bool_of (get (codes "hidden") members)

-- the box, the layer, and whether it is hidden
abbrev pub Look : Type 0
Look = Option PixelBox × ℤ × Bool

abbrev pub look_in : Members → Option Look
look_in members =
    option_and_then (λ pixels. option_and_then (λ layer. option_map (λ hidden. (pixels, layer, hidden))
    (hidden_in members))
    (layer_in members))
    (pixels_in members)

-- the object of the handlers
abbrev pub on_in : Members → Option Members
on_in members = optional [] object_of (get (codes "on") members)

-- ---- the node, its handlers apart

abbrev pub element_names : List (List ℕ)
element_names = codes "tag" ∷ codes "up" ∷ codes "attrs" ∷ codes "box" ∷ codes "layer" ∷ codes "hidden" ∷ codes "on" ∷ []

abbrev pub text_names : List (List ℕ)
text_names = codes "text" ∷ codes "up" ∷ []

abbrev pub shadow_names : List (List ℕ)
shadow_names = codes "shadow" ∷ codes "up" ∷ []

-- it has no member that its kind doesn't have
abbrev pub has_names : NodeKind → Members → Bool
has_names (Element tag) members = has_only element_names members
has_names (Chars text) members = has_only text_names members
has_names Shadow members = has_only shadow_names members

abbrev pub bare : NodeKind → Option ℕ → NodeDef
bare kind up = record { kind = kind; up = up; attrs = []; pixels = None; layer = pos 0; hidden = false; on = [] }

abbrev pub with_look : NodeKind → Option ℕ → List Attribute → Look → NodeDef
with_look kind up attrs look = record { kind = kind; up = up; attrs = attrs; pixels = look.0; layer = look.1; hidden = look.2; on = [] }

abbrev pub dressed : Members → List ℕ → Option ℕ → Option NodeDef
dressed members tag up =
    option_and_then (λ look. option_and_then (λ on. option_map (λ attrs. with_look (Element tag) up attrs look)
    (attributes_in members))
    (on_in members))
    (look_in members)

abbrev pub node_with : Members → NodeKind → Option ℕ → Option NodeDef
node_with members (Element tag) up = dressed members tag up
node_with members (Chars text) up = Some (bare (Chars text) up)
node_with members Shadow up = Some (bare Shadow up)

abbrev pub node_of_kind : Members → NodeKind → Option NodeDef
node_of_kind members kind = if has_names kind members then option_and_then (node_with members kind) (up_in members) else None

-- the node that an object's members spell
abbrev pub node_in : Members → Option NodeDef
node_in members = option_and_then (node_of_kind members) (kind_in members)

-- ---- handlers

abbrev pub all_kinds : List EventKind
all_kinds = PointerMove ∷ PointerDown ∷ PointerUp ∷ Click ∷ KeyDown ∷ KeyUp ∷ Input ∷ Change ∷ Focus ∷ Blur ∷ Submit ∷ Reset ∷ []

-- the type of events that has this name
unfoldable pub kind_named : List ℕ → Option EventKind
kind_named bytes = find (λ k. bytes_eq (kind_name k) bytes) all_kinds

abbrev pub Handler : Type 0
Handler = EventKind × List Effect

abbrev pub handler_of : List ℕ × Json → Option Handler
handler_of m = option_and_then (λ kind. option_map (λ effects. (kind, effects)) (effects_in m.1)) (kind_named (encode_utf8_all m.0))

abbrev pub handlers_in : Members → Option (List Handler)
handlers_in members = option_and_then (each_of handler_of) (on_in members)

-- only an element has some
abbrev pub handlers_of : NodeKind → Members → Option (List Handler)
handlers_of (Element tag) members = handlers_in members
handlers_of (Chars text) members = Some []
handlers_of Shadow members = Some []
