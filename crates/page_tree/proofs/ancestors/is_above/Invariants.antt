use Rattle.std.proofs.Common.{◌≡◌, ◌-◌}
use Rattle.page_tree.specs.Places.{chain, contains, lineage}
use Rattle.page_tree.specs.Inside.{ups_of}
use Rattle.page_tree.proofs.ancestors.is_above.Given as goal

abbrev pub invariant-loop-i : goal.invariant-loop-i
invariant-loop-i l = contains l.above (lineage (ups_of l.nodes) l.fn.from) ≡ contains l.above (chain (200 - l._i) (ups_of l.nodes) l.at)
