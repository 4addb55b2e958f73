use Rattle.std.proofs.Common.{◌≡◌, length}
use Rattle.selectors.specs.Characters.{is_name_character}
use Rattle.selectors.specs.ReadingSimples.{past}
use Rattle.selectors.proofs.pseudo.past_word.Given as goal

abbrev pub invariant-loop-first : goal.invariant-loop-first
invariant-loop-first l = past is_name_character l.rest ≡ past is_name_character l.fn.text

abbrev pub decreases-loop-first : goal.decreases-loop-first
decreases-loop-first l = length l.rest
