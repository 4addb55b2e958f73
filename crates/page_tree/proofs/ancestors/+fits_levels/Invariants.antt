use Rattle.std.proofs.Common.{◌≡◌, ◌-◌, take, true}
use Rattle.std.specs.List.{list_all}
use Rattle.page_tree.specs.Places.{below, fits_levels}
use Rattle.page_tree.specs.Inside.{kids_lists, shadows_of}
use Rattle.page_tree.proofs.ancestors.+fits_levels.Given as goal

abbrev pub decreases-fits_levels : goal.decreases-fits_levels
decreases-fits_levels l = l.levels

abbrev pub invariant-loop-kid : goal.invariant-loop-kid
invariant-loop-kid l = list_all (fits_levels (l.levels - 1) (below (shadows_of l.nodes) (kids_lists l.nodes))) (take l.kid-index l.kid-items) ≡ true
