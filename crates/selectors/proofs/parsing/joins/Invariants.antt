use Rattle.std.proofs.Common.{◌≡◌, [], length}
use Rattle.selectors.specs.ReadingSimples.{row_at, in_front}
use Rattle.selectors.specs.ReadingSelectors.{goes_on, join_at}
use Rattle.selectors.proofs.parsing.joins.Given as goal

abbrev pub invariant-row : goal.invariant-row
invariant-row l = in_front l.joins (row_at goes_on join_at l.rest) ≡ in_front [] (row_at goes_on join_at l.fn.text)

abbrev pub decreases-row : goal.decreases-row
decreases-row l = length l.rest
