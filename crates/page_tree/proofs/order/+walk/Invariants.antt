use Rattle.std.proofs.Common.{◌≡◌, ◌-◌, ◌∷◌, ◌++◌, take}
use Rattle.std.specs.List.{flat_map}
use Rattle.page_tree.specs.Places.{walk}
use Rattle.page_tree.specs.Inside.{kids_lists}
use Rattle.page_tree.proofs.order.+walk.Given as goal

abbrev pub decreases-walk : goal.decreases-walk
decreases-walk l = l.steps

abbrev pub invariant-loop-place : goal.invariant-loop-place
invariant-loop-place l = l.found.items ≡ l.fn.found.items ++ l.fn.node ∷ flat_map (walk (l.steps - 1) (kids_lists l.nodes)) (take l.place l.children)
