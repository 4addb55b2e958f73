use Rattle.std.proofs.Common.{◌≡◌, ◌+◌, ◌-◌, length}
use Rattle.page_tree.specs.Places.{chain, depth}
use Rattle.page_tree.specs.Inside.{ups_of}
use Rattle.page_tree.proofs.ancestors.depth.Given as goal

abbrev pub invariant-loop-i : goal.invariant-loop-i
invariant-loop-i l =
    let ups = ups_of l.nodes in
    depth ups l.fn.node ≡ l.i + length (chain (200 - l.i) ups l.at)
