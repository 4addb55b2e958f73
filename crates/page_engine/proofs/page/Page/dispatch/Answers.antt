use Rattle.std.proofs.Common.{◌≡◌, ◌≤◌, ◌+◌, ap, arith, rules}
use Rattle.waits.specs.Moments.{last_moment}
use Rattle.page_engine.specs.Dispatch.{dispatched}
use Rattle.page_engine.specs.Scene.{scene_of}
use Rattle.page_engine.specs.declared.at.At.{At}
use Rattle.page_engine.specs.declared.outcome.Outcome.{Outcome}
use Rattle.page_engine.proofs.MadeLemmas.{dispatch_fits}
use Rattle.page_engine.proofs.page.Page.dispatch.Goals as goal

pub returns-clause-made : goal.returns-clause-made
returns-clause-made c =
    let at : At = record { now = c.args.now; first = c.args.first } in
    let start : at.first + 0 ≤ last_moment = omega (arith, c.requires.numbers) in
    let fits = dispatch_fits c.args.self.now.handlers at c.args.event.now (scene_of c.args.self.now) start in
    let asked : c.dispatch.new.asked ≡ (dispatched c.args.self.now.handlers at c.args.event.now (scene_of c.args.self.now)).asked = search rules in
    let made = ap (λ (o : Outcome). o.made) asked in
    omega (arith, fits, made)
