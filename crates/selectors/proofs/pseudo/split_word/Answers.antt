use Rattle.std.proofs.Common.{◌≡◌, ◌≤◌, ◌-◌, length, take, subst, sym}
use Rattle.selectors.specs.Characters.{is_name_character}
use Rattle.selectors.specs.ReadingSimples.{passing}
use Rattle.selectors.proofs.Whites.{past_le, passing_take}
use Rattle.selectors.proofs.pseudo.split_word.Goals as goal

pub slice_bounds-result-count : goal.slice_bounds-result-count
slice_bounds-result-count c = subst (λ rest. length rest ≤ length c.args.text.now) (sym c.past_word-rest.ensures) (past_le is_name_character c.args.text.now)

pub returns-clause-word : goal.returns-clause-word
returns-clause-word c = subst (λ rest. take (length c.args.text.now - length rest) c.args.text.now ≡ passing is_name_character c.args.text.now) (sym c.past_word-rest.ensures) (passing_take is_name_character c.args.text.now)
