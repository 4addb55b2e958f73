use Rattle.std.proofs.Common.{◌≡◌, length}
use Rattle.selectors.specs.ReadingSimples.{marks, row_at, in_front, simple_at}
use Rattle.selectors.proofs.compounds.row.Given as goal

abbrev pub invariant-row : goal.invariant-row
invariant-row l = in_front l.simples (row_at marks simple_at l.rest) ≡ in_front l.fn.front (row_at marks simple_at l.fn.text)

abbrev pub decreases-row : goal.decreases-row
decreases-row l = length l.rest
