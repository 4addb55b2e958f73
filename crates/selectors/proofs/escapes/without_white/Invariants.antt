use Rattle.std.proofs.Common.{◌≡◌, length}
use Rattle.selectors.specs.Reading.{after_white}
use Rattle.selectors.proofs.escapes.without_white.Given as goal

abbrev pub invariant-loop-first : goal.invariant-loop-first
invariant-loop-first l = after_white l.rest ≡ after_white l.fn.text

abbrev pub decreases-loop-first : goal.decreases-loop-first
decreases-loop-first l = length l.rest
