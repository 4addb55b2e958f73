use Rattle.std.proofs.Common.{◌≡◌, drop}
use Rattle.selectors.specs.ReadingSteps.{word_at}
use Rattle.selectors.proofs.steps.without_word.Given as goal

abbrev pub invariant-loop-letter : goal.invariant-loop-letter
invariant-loop-letter l = word_at (drop l.letter-index l.word) l.rest ≡ word_at l.word l.fn.text
