use Rattle.std.proofs.Common.{ℕ, List, ◌++◌, length}
use Rattle.selectors.specs.Reading.{name_piece_at}
use Rattle.selectors.proofs.Spelled.{Spelled}
use Rattle.selectors.proofs.names.identifier.Given as goal

-- what the rest spells, behind what was read, is what the text spells
abbrev pub invariant-loop-c : goal.invariant-loop-c
invariant-loop-c l = (value left : List ℕ) → Spelled name_piece_at l.rest value left → Spelled name_piece_at l.fn.text (l.value ++ value) left

abbrev pub decreases-loop-c : goal.decreases-loop-c
decreases-loop-c l = length l.rest
