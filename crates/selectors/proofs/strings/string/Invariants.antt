use Rattle.std.proofs.Common.{ℕ, List, ◌++◌, length}
use Rattle.selectors.specs.Reading.{string_piece_at}
use Rattle.selectors.proofs.Spelled.{Spelled}
use Rattle.selectors.proofs.strings.string.Given as goal

-- what the rest spells, behind what was read, is what the text behind the quote spells
abbrev pub invariant-loop-part : goal.invariant-loop-part
invariant-loop-part l = (value left : List ℕ) → Spelled (string_piece_at l.quote) l.rest value left → Spelled (string_piece_at l.quote) l.initial.rest (l.value ++ value) left

abbrev pub decreases-loop-part : goal.decreases-loop-part
decreases-loop-part l = length l.rest
