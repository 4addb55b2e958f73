use Rattle.std.proofs.Common.{◌≡◌, ◌-◌, take, false}
use Rattle.std.specs.Prelude.{◌&&◌}
use Rattle.std.specs.List.{list_any}
use Rattle.page_tree.specs.Inside.{rows_of}
use Rattle.page_tree.specs.Display.{is_part, is_seen}
use Rattle.page_tree.proofs.displayed.+has_seen.Given as goal

abbrev pub decreases-has_seen : goal.decreases-has_seen
decreases-has_seen l = l.levels

abbrev pub invariant-loop-kid : goal.invariant-loop-kid
invariant-loop-kid l = list_any (λ k. is_part (rows_of l.nodes) k && is_seen (l.levels - 1) (rows_of l.nodes) k) (take l.kid-index l.kid-items) ≡ false
