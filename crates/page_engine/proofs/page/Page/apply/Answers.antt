use Rattle.std.proofs.Common.{◌≡◌, ◌≤◌, ◌+◌, ap, arith, rules}
use Rattle.waits.specs.Moments.{last_moment}
use Rattle.page_engine.specs.Effects.{effects_on}
use Rattle.page_engine.specs.Fitting.{anywhere}
use Rattle.page_engine.specs.Scene.{scene_of}
use Rattle.page_engine.specs.declared.at.At.{At}
use Rattle.page_engine.specs.declared.outcome.Outcome.{Outcome}
use Rattle.page_engine.proofs.MadeLemmas.{apply_fits}
use Rattle.page_engine.proofs.page.Page.apply.Goals as goal

pub returns-clause-made : goal.returns-clause-made
returns-clause-made c =
    let at : At = record { now = c.args.now; first = c.args.first } in
    let start : at.first + 0 ≤ last_moment = omega (arith, c.requires.numbers) in
    let fits = apply_fits at (scene_of c.args.self.now) c.args.effects.now start in
    let asked : c.run_effects.new.asked ≡ (effects_on at anywhere (scene_of c.args.self.now) c.args.effects.now).asked = search rules in
    let made = ap (λ (o : Outcome). o.made) asked in
    omega (arith, fits, made)
