use Rattle.std.proofs.Common.{◌≡◌, IfOk, subst, refl}
use Rattle.page_engine.specs.Fitting.{anywhere}
use Rattle.page_file.proofs.EachRead.{effect_timed}
use Rattle.page_file.proofs.reading.effect_row.Goals as goal

pub returns-in_default : goal.returns-in_default
returns-in_default c = record {
  row = subst (λ o. IfOk c.timed_row.result (λ e. e ≡ o)) (effect_timed c.args.word c.args.values.now c.in_default.not-After) c.timed_row.ensures.row;
  fits = c.timed_row.ensures.fits anywhere refl;
}
