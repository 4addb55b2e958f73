use Rattle.std.proofs.Common.{◌≡◌, ◌∙◌, ap, rules}
use Rattle.page_engine.specs.Dispatch.{due_run}
use Rattle.page_engine.specs.Scene.{scene_of}
use Rattle.page_engine.specs.declared.outcome.Outcome.{Outcome}
use Rattle.page_engine.proofs.MadeLemmas.{run_made}
use Rattle.page_engine.proofs.page.Page.run_due.Goals as goal

pub returns-clause-made : goal.returns-clause-made
returns-clause-made c =
    let asked : c.match-pop_first.asked ≡ (due_run c.args.now (scene_of c.args.self.now) c.args.self.now.pending).asked = search rules in
    ap (λ (o : Outcome). o.made) asked ∙ run_made c.args.now (scene_of c.args.self.now) c.args.self.now.pending
