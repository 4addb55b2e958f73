use Rattle.std.proofs.Common.{◌≡◌, drop}
use Rattle.page_engine.specs.Fitting.{fit_at}
use Rattle.page_engine.proofs.fitting.+fitting.Given as goal

abbrev pub invariant-all_fit-loop-effect : goal.invariant-all_fit-loop-effect
invariant-all_fit-loop-effect l = fit_at l.place l.effect-items ≡ fit_at l.place (drop l.effect-index l.effect-items)
