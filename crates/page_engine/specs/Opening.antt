-- The rows and the timers of a page as it is opened, before its nodes have their first values.
use Rattle.std.specs.Prelude.{ℕ, ℤ, suc, Bool, false, List, [], ◌∷◌, Option, Some, None, length, map, if◌then◌else◌}
use Rattle.std.specs.List.{range_with_len}
use Rattle.page_tree.specs.Attributes.{Attributes, changed_to}
use Rattle.page_tree.specs.Rows.{Rows, origin, with_content, moved}
use Rattle.page_tree.specs.declared.content.Content.{Content}
use Rattle.page_tree.specs.declared.content.Kind.{Kind}
use Rattle.page_tree.specs.declared.content.Kind.TheVariants as tree
use Rattle.page_tree.specs.declared.geometry.PixelBox.{PixelBox}
use Rattle.waits.specs.Moments.{plus}
use Rattle.page_engine.specs.Nodes.{is_child_of, is_shadow_of}
use Rattle.page_engine.specs.Timers.{Timer, with_timer}
use Rattle.page_engine.specs.declared.page_def.NodeDef.{NodeDef}
use Rattle.page_engine.specs.declared.page_def.NodeKind.{NodeKind}
use Rattle.page_engine.specs.declared.page_def.NodeKind.TheVariants.{Element, Chars, Shadow}
use Rattle.page_engine.specs.declared.page_def.TimerDef.{TimerDef}

-- ---- nodes

abbrev pub kind_of : NodeKind → Kind
kind_of (Element tag) = tree.Element tag
kind_of (Chars text) = tree.Text text
kind_of Shadow = tree.Shadow

-- the attributes, set one after another
abbrev pub all_set : List (List ℕ × List ℕ) → Attributes → Attributes
all_set [] attributes = attributes
all_set (a ∷ rest) attributes = all_set rest (changed_to a.0 (Some a.1) attributes)

-- what a node is, before it has its first value
abbrev pub content_of : NodeDef → Content
content_of d = record { kind = kind_of d.kind; attributes = all_set d.attrs []; pixels = d.pixels; layer = d.layer; hidden = d.hidden; value = []; checked = false }

-- the numbers of the nodes that pass a test, where the first of the list has number n
abbrev pub numbers_where : (NodeDef → Bool) → ℕ → List NodeDef → List ℕ
numbers_where test n [] = []
numbers_where test n (d ∷ ds) = if test d then n ∷ numbers_where test (suc n) ds else numbers_where test (suc n) ds

-- the children of a node, in the order of the nodes
abbrev pub children_in : List NodeDef → ℕ → List ℕ
children_in nodes p = numbers_where (is_child_of p) 0 nodes

abbrev pub first_of : List ℕ → Option ℕ
first_of [] = None
first_of (n ∷ ns) = Some n

abbrev pub shadow_in : List NodeDef → ℕ → Option ℕ
shadow_in nodes host = first_of (numbers_where (is_shadow_of host) 0 nodes)

-- a list with what each number has
abbrev pub for_each : {X : Type 0} → (ℕ → X) → ℕ → List X
for_each f count = map f (range_with_len 0 count)

-- the rows before nodes have their first values
abbrev pub bare_rows : List NodeDef → Rows
bare_rows nodes = record {
  ups = map (λ d. d.up) nodes;
  kids = for_each (children_in nodes) (length nodes);
  shadows = for_each (shadow_in nodes) (length nodes);
  contents = map content_of nodes;
  focus = None;
  scroll = origin;
}

-- ---- timers

-- each with its due moment and its number, in the order in which they run
abbrev pub with_timers : ℕ → ℕ → List TimerDef → List Timer → List Timer
with_timers moment number [] pending = pending
with_timers moment number (timer ∷ timers) pending =
    with_timers moment (suc number) timers (with_timer ((plus moment timer.at, number), timer.effects) pending)

-- ---- a node as it is added

-- the fields of an element
abbrev pub filled : NodeDef → Content → Content
filled d content = record content { attributes = all_set d.attrs content.attributes; pixels = d.pixels; layer = d.layer; hidden = d.hidden }

-- an element with these attributes set
abbrev pub attributed : Rows → ℕ → List (List ℕ × List ℕ) → Rows
attributed rows n attrs = with_content rows n (λ content. record content { attributes = all_set attrs content.attributes })

-- with a box, a layer, and hidden or not
abbrev pub shown : Rows → ℕ → Option PixelBox → ℤ → Bool → Rows
shown rows n pixels layer hidden = with_content rows n (λ content. record content { pixels = pixels; layer = layer; hidden = hidden })

-- the node last among the children of its parent, if it has one
abbrev pub placed : ℕ → Rows → ℕ → Option ℕ → Rows
placed last rows n None = rows
placed last rows n (Some p) = moved rows n p last
