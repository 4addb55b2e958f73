use Rattle.std.proofs.Common.{◌≡◌, IfOk, subst}
use Rattle.page_file.proofs.EachRead.{timed_plain}
use Rattle.page_file.proofs.reading.timed_row.Goals as goal

pub returns-in_default : goal.returns-in_default
returns-in_default c = record {
  row = subst (λ o. IfOk c.plain_effect.result (λ e. e ≡ o)) (timed_plain c.args.word c.args.values.now c.in_default.not-Prompt) c.plain_effect.ensures.row;
  fits = λ place h. c.plain_effect.ensures.fits place;
}
