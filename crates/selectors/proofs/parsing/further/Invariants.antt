use Rattle.std.proofs.Common.{◌≡◌, length}
use Rattle.selectors.specs.ReadingSimples.{row_at, in_front}
use Rattle.selectors.specs.ReadingSelectors.{has_more, next_at}
use Rattle.selectors.proofs.parsing.further.Given as goal

abbrev pub invariant-row : goal.invariant-row
invariant-row l = in_front l.alternatives (row_at has_more next_at l.rest) ≡ in_front l.fn.front (row_at has_more next_at l.fn.text)

abbrev pub decreases-row : goal.decreases-row
decreases-row l = length l.rest
