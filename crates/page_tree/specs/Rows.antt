-- The rows of a document. A node's number is its place in each list, so each number below the count has one row.
use Rattle.std.specs.Prelude.{◌≡◌, ℕ, ℤ, pos, zero, suc, ◌≤◌, ◌<◌, Bool, true, false, List, [], ◌∷◌, ◌++◌, Option, Some, None, IfSome, length, map, slice_get, slice_set, if◌then◌else◌}
use Rattle.std.specs.Option.{option_map}
use Rattle.page_tree.specs.Attributes.{Attributes, DifferInName, value_of, changed_to}
use Rattle.page_tree.specs.Places.{up_of, kids_of, shadow_of, times, points_to, lineage, depth, max_depth, without, put_among, contains, walk, path_of, is_hosted, own_up, own_ups, below}
use Rattle.page_tree.specs.declared.content.Content.{Content}
use Rattle.page_tree.specs.declared.content.Kind.{Kind}
use Rattle.page_tree.specs.declared.content.Kind.TheVariants.{Element, Text, Shadow}
use Rattle.page_tree.specs.declared.geometry.PixelBox.{PixelBox}
use Rattle.page_tree.specs.declared.geometry.Point.{Point}

pub record Rows : Type 0 where
  -- the parent of each node; that of a shadow root is its host
  pub ups : List (Option ℕ)
  -- the children of each node, in order, without its shadow root
  pub kids : List (List ℕ)
  -- the shadow root of each node
  pub shadows : List (Option ℕ)
  -- what each node is
  pub contents : List Content
  -- the element that has the focus, if there is one
  pub focus : Option ℕ
  -- how far the page is scrolled
  pub scroll : Point

abbrev pub max_nodes : ℕ
max_nodes = 50000

abbrev pub count : Rows → ℕ
count rows = length rows.ups

-- ---- what a node is

abbrev pub kind_at : List Content → ℕ → Option Kind
kind_at contents n = option_map (λ content. content.kind) (slice_get contents n)

abbrev pub kind_tag : Option Kind → Option (List ℕ)
kind_tag None = None
kind_tag (Some (Element tag)) = Some tag
kind_tag (Some (Text text)) = None
kind_tag (Some Shadow) = None

-- the tag of an element
abbrev pub tag_of : Rows → ℕ → Option (List ℕ)
tag_of rows n = kind_tag (kind_at rows.contents n)

abbrev pub kind_text : Option Kind → Option (List ℕ)
kind_text None = None
kind_text (Some (Element tag)) = None
kind_text (Some (Text text)) = Some text
kind_text (Some Shadow) = None

-- the characters of a text
abbrev pub text_of : Rows → ℕ → Option (List ℕ)
text_of rows n = kind_text (kind_at rows.contents n)

abbrev pub is_element_kind : Option Kind → Bool
is_element_kind None = false
is_element_kind (Some (Element tag)) = true
is_element_kind (Some (Text text)) = false
is_element_kind (Some Shadow) = false

abbrev pub is_element : Rows → ℕ → Bool
is_element rows n = is_element_kind (kind_at rows.contents n)

abbrev pub is_text_kind : Option Kind → Bool
is_text_kind None = false
is_text_kind (Some (Element tag)) = false
is_text_kind (Some (Text text)) = true
is_text_kind (Some Shadow) = false

abbrev pub is_text : Rows → ℕ → Bool
is_text rows n = is_text_kind (kind_at rows.contents n)

abbrev pub is_shadow_kind : Option Kind → Bool
is_shadow_kind None = false
is_shadow_kind (Some (Element tag)) = false
is_shadow_kind (Some (Text text)) = false
is_shadow_kind (Some Shadow) = true

abbrev pub is_shadow : Rows → ℕ → Bool
is_shadow rows n = is_shadow_kind (kind_at rows.contents n)

abbrev pub content_attribute : List ℕ → Option Content → Option (List ℕ)
content_attribute name None = None
content_attribute name (Some content) = value_of name content.attributes

-- the value of a node's attribute with that name
abbrev pub attribute_of : Rows → ℕ → List ℕ → Option (List ℕ)
attribute_of rows n name = content_attribute name (slice_get rows.contents n)

-- a node of that kind as it is added: no attributes, no box, layer 0, not hidden, no value, not checked
abbrev pub plain : Kind → Content
plain kind = record { kind = kind; attributes = []; pixels = None; layer = pos 0; hidden = false; value = []; checked = false }

-- an element with this tag
abbrev pub element : List ℕ → Content
element tag = plain (Element tag)

-- a text
abbrev pub text_node : List ℕ → Content
text_node text = plain (Text text)

abbrev pub shadow_root : Content
shadow_root = plain Shadow

abbrev pub or_shadow_root : Option Content → Content
or_shadow_root None = shadow_root
or_shadow_root (Some content) = content

-- what a node is; a number that no node has is taken for a shadow root
abbrev pub content_at : Rows → ℕ → Content
content_at rows n = or_shadow_root (slice_get rows.contents n)

-- a node's attributes, in the order in which they were first set
abbrev pub attributes_at : Rows → ℕ → Attributes
attributes_at rows n = (content_at rows n).attributes

-- the characters of a node's value
abbrev pub value_at : Rows → ℕ → List ℕ
value_at rows n = (content_at rows n).value

abbrev pub checked_at : Rows → ℕ → Bool
checked_at rows n = (content_at rows n).checked

-- a node's box, if it has one
abbrev pub pixels_at : Rows → ℕ → Option PixelBox
pixels_at rows n = (content_at rows n).pixels

abbrev pub layer_at : Rows → ℕ → ℤ
layer_at rows n = (content_at rows n).layer

abbrev pub hidden_at : Rows → ℕ → Bool
hidden_at rows n = (content_at rows n).hidden

-- ---- what holds of the rows of every document

pub record IsTree (rows : Rows) : Type 0 where
  -- there is a root
  pub some : 0 < length rows.ups
  pub few : length rows.ups ≤ max_nodes
  pub kids_of_each : length rows.kids ≡ length rows.ups
  pub shadow_of_each : length rows.shadows ≡ length rows.ups
  pub content_of_each : length rows.contents ≡ length rows.ups
  -- the root has no parent
  pub top : up_of rows.ups 0 ≡ None
  -- a node that is no shadow root stands once among its parent's children, and nowhere else; a shadow root stands nowhere
  pub each : (p m : ℕ) → times m (kids_of rows.kids p) ≡ (if points_to p (own_up rows.ups rows.shadows m) then 1 else 0)
  -- a shadow root's parent is its host
  pub host : (p m : ℕ) → shadow_of rows.shadows p ≡ Some m → up_of rows.ups m ≡ Some p
  -- the nodes of the kind Shadow are those that are a shadow root
  pub roots : (n : ℕ) → is_shadow rows n ≡ is_hosted rows.ups rows.shadows n
  -- no node is deeper than 200, hosts counted, so that parents run in no circle
  pub shallow : (n : ℕ) → depth rows.ups n ≤ max_depth
  -- what has the focus is an element
  pub focused : IfSome rows.focus (λ n. is_element rows n ≡ true)
  -- a text has no children
  pub leaves : (n : ℕ) → is_text rows n ≡ true → kids_of rows.kids n ≡ []
  -- what has a shadow root is an element
  pub hosts : (p m : ℕ) → shadow_of rows.shadows p ≡ Some m → is_element rows p ≡ true
  -- the attribute names of one node differ from each other
  pub names : (n : ℕ) → DifferInName (attributes_at rows n)

-- ---- where nodes stand

-- whether the chain of parents, through hosts, reaches the root
abbrev pub is_connected : Rows → ℕ → Bool
is_connected rows n = contains 0 (lineage rows.ups n)

-- whether the chain of parents within the node's own tree reaches the root
abbrev pub is_in_document_tree : Rows → ℕ → Bool
is_in_document_tree rows n = contains 0 (lineage (own_ups rows.ups rows.shadows) n)

-- the root and all that children reach from it
abbrev pub document_order : Rows → List ℕ
document_order rows = walk max_depth rows.kids 0

-- the places from the top down to the node, a shadow root before its host's children
abbrev pub path : Rows → ℕ → List ℕ
path rows n = path_of rows.ups (below rows.shadows rows.kids) n

abbrev pub paths_of : Rows → List ℕ → List (List ℕ)
paths_of rows nodes = map (path rows) nodes

-- ---- changes

-- the corner of the page
abbrev pub origin : Point
origin = record { x = pos 0; y = pos 0 }

abbrev pub one_node : Content → Rows
one_node content = record { ups = None ∷ []; kids = [] ∷ []; shadows = None ∷ []; contents = content ∷ []; focus = None; scroll = origin }

-- with one node more, which has that parent and nothing below it
abbrev pub grown : Rows → Option ℕ → Content → Rows
grown rows up content = record rows { ups = rows.ups ++ up ∷ []; kids = rows.kids ++ [] ∷ []; shadows = rows.shadows ++ None ∷ []; contents = rows.contents ++ content ∷ [] }

abbrev pub with_shadow : Rows → ℕ → Option ℕ → Rows
with_shadow rows n shadow = record rows { shadows = slice_set rows.shadows n shadow }

-- with one node more, the shadow root of this host
abbrev pub hosting : Rows → ℕ → Rows
hosting rows host = with_shadow (grown rows (Some host) shadow_root) host (Some (count rows))

abbrev pub with_up : Rows → ℕ → Option ℕ → Rows
with_up rows n up = record rows { ups = slice_set rows.ups n up }

abbrev pub with_kids : Rows → ℕ → List ℕ → Rows
with_kids rows n kids = record rows { kids = slice_set rows.kids n kids }

abbrev pub without_kid : Rows → ℕ → Rows
without_kid rows m = record rows { kids = map (without m) rows.kids }

-- the node and what is below it stand alone
abbrev pub detached : Rows → ℕ → Rows
detached rows m = with_up (without_kid rows m) m None

-- a node that stands alone is put at that place among the children of p
abbrev pub attached : Rows → ℕ → ℕ → ℕ → Rows
attached rows m p place = with_up (with_kids rows p (put_among place m (kids_of rows.kids p))) m (Some p)

-- the node is taken out first, and the place counted then
abbrev pub moved : Rows → ℕ → ℕ → ℕ → Rows
moved rows m p place = attached (detached rows m) m p place

-- the list with f applied at one place
abbrev pub change_at : {X : Type 0} → ℕ → (X → X) → List X → List X
change_at n f [] = []
change_at zero f (x ∷ xs) = f x ∷ xs
change_at (suc n) f (x ∷ xs) = x ∷ change_at n f xs

-- with f applied to what a node is
abbrev pub with_content : Rows → ℕ → (Content → Content) → Rows
with_content rows n f = record rows { contents = change_at n f rows.contents }

abbrev pub with_attribute : Rows → ℕ → List ℕ → Option (List ℕ) → Rows
with_attribute rows n name value = with_content rows n (λ content. record content { attributes = changed_to name value content.attributes })

abbrev pub with_text : Rows → ℕ → List ℕ → Rows
with_text rows n text = with_content rows n (λ content. record content { kind = Text text })

abbrev pub with_value : Rows → ℕ → List ℕ → Rows
with_value rows n text = with_content rows n (λ content. record content { value = text })

abbrev pub with_pixels : Rows → ℕ → Option PixelBox → Rows
with_pixels rows n pixels = with_content rows n (λ content. record content { pixels = pixels })

abbrev pub with_layer : Rows → ℕ → ℤ → Rows
with_layer rows n layer = with_content rows n (λ content. record content { layer = layer })

abbrev pub with_hidden : Rows → ℕ → Bool → Rows
with_hidden rows n hidden = with_content rows n (λ content. record content { hidden = hidden })

abbrev pub with_checked : Rows → ℕ → Bool → Rows
with_checked rows n checked = with_content rows n (λ content. record content { checked = checked })

abbrev pub with_focus : Rows → Option ℕ → Rows
with_focus rows node = record rows { focus = node }

abbrev pub with_scroll : Rows → Point → Rows
with_scroll rows at = record rows { scroll = at }
