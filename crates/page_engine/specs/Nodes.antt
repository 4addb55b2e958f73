-- When the nodes of a page keep the rules: each by the nodes before it, and the tree that they make.
use Rattle.std.specs.Prelude.{◌≡◌, ℕ, ℤ, pos, negsuc, zero, suc, ◌≤◌, Bool, true, false, ◌&&◌, not, List, [], ◌∷◌, Option, Some, None, is_none, length, take, map, slice_get}
use Rattle.std.specs.List.{list_any}
use Rattle.std.specs.Str.{bytes_eq}
use Rattle.page_tree.specs.Places.{points_to, all_shallow}
use Rattle.page_tree.specs.Rows.{max_nodes}
use Rattle.page_engine.specs.Fitting.{anywhere, fit_at, is_box_or_none, is_layer}
use Rattle.page_engine.specs.Kinds.{is_same_kind}
use Rattle.page_engine.specs.Names.{is_tag, is_attribute_name}
use Rattle.page_engine.specs.declared.effect.Effect.{Effect}
use Rattle.page_engine.specs.declared.event.EventKind.{EventKind}
use Rattle.page_engine.specs.declared.page_def.NodeDef.{NodeDef}
use Rattle.page_engine.specs.declared.page_def.NodeKind.{NodeKind}
use Rattle.page_engine.specs.declared.page_def.NodeKind.TheVariants.{Element, Chars, Shadow}

abbrev pub is_element_def : NodeKind → Bool
is_element_def (Element tag) = true
is_element_def (Chars text) = false
is_element_def Shadow = false

abbrev pub is_text_def : NodeKind → Bool
is_text_def (Element tag) = false
is_text_def (Chars text) = true
is_text_def Shadow = false

abbrev pub is_shadow_def : NodeKind → Bool
is_shadow_def (Element tag) = false
is_shadow_def (Chars text) = false
is_shadow_def Shadow = true

-- ---- where a node stands

-- the node is the shadow root of that host
abbrev pub is_shadow_of : ℕ → NodeDef → Bool
is_shadow_of host d = is_shadow_def d.kind && points_to host d.up

-- the node is a child of that one
abbrev pub is_child_of : ℕ → NodeDef → Bool
is_child_of p d = not (is_shadow_def d.kind) && points_to p d.up

abbrev pub is_host : Option NodeDef → Bool
is_host None = false
is_host (Some d) = is_element_def d.kind

abbrev pub is_parent : Option NodeDef → Bool
is_parent None = false
is_parent (Some d) = not (is_text_def d.kind)

-- a node of that kind may stand under that earlier node, or alone: a shadow root under an element
-- that has none, any other node under one that is no text
abbrev pub may_stand : List NodeDef → NodeKind → Option ℕ → Bool
may_stand earlier Shadow None = false
may_stand earlier Shadow (Some host) = is_host (slice_get earlier host) && not (list_any (is_shadow_of host) earlier)
may_stand earlier (Element tag) None = true
may_stand earlier (Element tag) (Some up) = is_parent (slice_get earlier up)
may_stand earlier (Chars text) None = true
may_stand earlier (Chars text) (Some up) = is_parent (slice_get earlier up)

-- ---- what a node is

-- the names are of their form, and no name stands twice
abbrev pub are_attributes : List (List ℕ × List ℕ) → Bool
are_attributes [] = true
are_attributes (a ∷ rest) = is_attribute_name a.0 && (not (list_any (λ other. bytes_eq other.0 a.0) rest) && are_attributes rest)

-- the effects fit, and no type of event stands twice
abbrev pub are_handlers : List (EventKind × List Effect) → Bool
are_handlers [] = true
are_handlers (h ∷ hs) = fit_at anywhere h.1 && (not (list_any (λ other. is_same_kind other.0 h.0) hs) && are_handlers hs)

abbrev pub has_none : {X : Type 0} → List X → Bool
has_none [] = true
has_none (x ∷ xs) = false

abbrev pub is_zero : ℤ → Bool
is_zero (pos zero) = true
is_zero (pos (suc n)) = false
is_zero (negsuc n) = false

-- only elements have attributes, a box, a layer, handlers, or are hidden
abbrev pub is_bare : NodeDef → Bool
is_bare d = has_none d.attrs && (is_none d.pixels && (is_zero d.layer && (not d.hidden && has_none d.on)))

abbrev pub has_fields : NodeKind → NodeDef → Bool
has_fields (Element tag) d = is_tag tag && (are_attributes d.attrs && (is_box_or_none d.pixels && (is_layer d.layer && are_handlers d.on)))
has_fields (Chars text) d = is_bare d
has_fields Shadow d = is_bare d

-- a node keeps the rules, by the nodes before it
abbrev pub is_node : List NodeDef → NodeDef → Bool
is_node earlier d = may_stand earlier d.kind d.up && has_fields d.kind d

-- the first node is an element that stands alone
abbrev pub is_root_def : Option NodeDef → Bool
is_root_def None = false
is_root_def (Some d) = is_element_def d.kind && is_none d.up

pub record AreNodes (nodes : List NodeDef) : Type 0 where
  pub few : length nodes ≤ max_nodes
  pub root : is_root_def (slice_get nodes 0) ≡ true
  pub each : (n : ℕ) (d : NodeDef) → slice_get nodes n ≡ Some d → is_node (take n nodes) d ≡ true
  -- no node stands deeper than 200, hosts counted
  pub shallow : all_shallow (map (λ d. d.up) nodes) ≡ true
