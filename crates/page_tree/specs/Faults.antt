-- When a change of the tree is refused, and what a refusal leaves.
use Rattle.std.specs.Prelude.{◌≡◌, ℕ, true, Option, Some, None, Result, Ok, Err, ◌==◌, nat_lt, if◌then◌else◌}
use Rattle.page_tree.specs.Places.{contains, lineage, depth, max_depth, all_shallow}
use Rattle.page_tree.specs.Rows.{Rows, moved, count, max_nodes}
use Rattle.page_tree.specs.DocumentState.{DocumentState}
use Rattle.page_tree.specs.declared.fault.TreeFault.{TreeFault}
use Rattle.page_tree.specs.declared.fault.TreeFault.TheVariants.{Depth, Nodes, Cycle, Memory}

abbrev pub fault_reason : TreeFault → Option TreeFault
fault_reason Depth = Some Depth
fault_reason Nodes = Some Nodes
fault_reason Cycle = Some Cycle
fault_reason Memory = None

-- what refused the change; want of memory is no reason
abbrev pub reason : {X : Type 0} → Result X TreeFault → Option TreeFault
reason (Ok x) = None
reason (Err fault) = fault_reason fault

-- the parent is in the node's subtree; else some node would stand too deep
abbrev pub move_refusal : Rows → ℕ → ℕ → ℕ → Option TreeFault
move_refusal rows m p place = if contains m (lineage rows.ups p) then Some Cycle else if all_shallow (moved rows m p place).ups then None else Some Depth

abbrev pub growth_refusal : Rows → Option TreeFault
growth_refusal rows = if count rows == max_nodes then Some Nodes else None

-- there are too many nodes; else the host stands as deep as a node may
abbrev pub shadow_refusal : Rows → ℕ → Option TreeFault
shadow_refusal rows host = if count rows == max_nodes then Some Nodes else if nat_lt (depth rows.ups host) max_depth then None else Some Depth

-- want of memory leaves the document spent, and any other refusal leaves it as it was
abbrev pub Leaves : DocumentState → DocumentState → TreeFault → Type 0
Leaves old new Depth = new ≡ old
Leaves old new Nodes = new ≡ old
Leaves old new Cycle = new ≡ old
Leaves old new Memory = new.spent ≡ true
