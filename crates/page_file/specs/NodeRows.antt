-- Which node a value spells that comes after other nodes, or the first thing that is wrong with it.
use Rattle.std.specs.Prelude.{◌≡◌, ℕ, ◌<◌, ◌≤◌, Bool, true, false, ◌&&◌, not, nat_lt, nat_le, List, [], ◌∷◌, ◌++◌, Option, Some, Result, Ok, Err, length, take, map, slice_get, slice_index_or, if◌then◌else◌}
use Rattle.std.specs.List.{list_any}
use Rattle.page_engine.specs.Nodes.{is_node, is_root_def, is_shadow_of, are_handlers}
use Rattle.page_engine.specs.declared.page_def.NodeDef.{NodeDef}
use Rattle.page_file.specs.Members.{Members, object_of}
use Rattle.page_file.specs.NodeValues.{has_up, node_in, Handler, handlers_of}
use Rattle.page_file.specs.Rows.{if_ok, or_fault, keep}
use Rattle.page_file.specs.declared.why.Why.{Why}
use Rattle.page_file.specs.declared.why.Why.TheVariants.{Node, Depth, Nodes, Effect}
use Rattle.page_tree.specs.Places.{depth, max_depth}
use Rattle.page_tree.specs.Rows.{max_nodes}
use Rattle.wd_json.specs.declared.value.Json.{Json}

-- the first node stands alone and is an element; every other one says what it stands under
abbrev pub starts : List NodeDef → Members → NodeDef → Bool
starts [] members d = not (has_up members) && is_root_def (Some d)
starts (e ∷ earlier) members d = has_up members

abbrev pub is_good : List NodeDef → Members → NodeDef → Bool
is_good earlier members d = starts earlier members d && is_node earlier d

-- how deep a node stands that comes after these
abbrev pub depth_after : List NodeDef → Option ℕ → ℕ
depth_after earlier up = depth (map (λ d. d.up) earlier ++ up ∷ []) (length earlier)

abbrev pub is_deep : List NodeDef → NodeDef → Bool
is_deep earlier d = nat_lt max_depth (depth_after earlier d.up)

-- the depth of a node that may come after these, or what is wrong with it: first where it stands, then how deep, then one too many
abbrev pub depth_in : List NodeDef → Members → NodeDef → Result ℕ Why
depth_in earlier members d =
    if not (is_good earlier members d) then Err Node
    else (if is_deep earlier d then Err Depth
    else (if nat_le max_nodes (length earlier) then Err Nodes
    else Ok (depth_after earlier d.up)))

abbrev pub with_handlers : NodeDef → List Handler → NodeDef
with_handlers d on = record d { on = on }

abbrev pub node_after : List NodeDef → Members → Result NodeDef Why
node_after earlier members =
    if_ok (λ d. if_ok (λ depth. if_ok (λ on. Ok (with_handlers d on))
    (or_fault Effect (keep are_handlers (handlers_of d.kind members))))
    (depth_in earlier members d))
    (or_fault Node (node_in members))

-- the node without its handlers, its place, and last its handlers
abbrev pub next_node : List NodeDef → Json → Result NodeDef Why
next_node earlier v = if_ok (node_after earlier) (or_fault Node (object_of v))

-- ---- for private clauses: what is kept beside the nodes that were read

-- one flag a node: whether it has a shadow root
pub record AreFlags (defs : List NodeDef) (flags : List Bool) : Type 0 where
  pub room : length defs ≤ length flags
  pub each : (n : ℕ) → n < length flags → slice_index_or flags n false ≡ list_any (is_shadow_of n) defs

-- all of them stand under earlier ones, and none is deep
pub record AreStanding (defs : List NodeDef) : Type 0 where
  pub few : length defs ≤ max_nodes
  pub root : 0 < length defs → is_root_def (slice_get defs 0) ≡ true
  pub each : (n : ℕ) (d : NodeDef) → slice_get defs n ≡ Some d → is_node (take n defs) d ≡ true
  pub shallow : (n : ℕ) (d : NodeDef) → slice_get defs n ≡ Some d → is_deep (take n defs) d ≡ false

-- the depth of each node
pub record AreDepths (defs : List NodeDef) (depths : List ℕ) : Type 0 where
  pub stand : AreStanding defs
  pub many : length depths ≡ length defs
  pub each : (n : ℕ) (d : NodeDef) → slice_get defs n ≡ Some d → slice_get depths n ≡ Some (depth_after (take n defs) d.up)

-- the value spells the next node, at that depth
pub record IsNext (defs : List NodeDef) (v : Json) (d : NodeDef) (level : ℕ) : Type 0 where
  pub spelled : next_node defs v ≡ Ok d
  pub deep : level ≡ depth_after defs d.up
