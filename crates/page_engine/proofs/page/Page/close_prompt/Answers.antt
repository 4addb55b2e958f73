use Rattle.std.proofs.Common.{◌≡◌, ◌∙◌, ap, rules}
use Rattle.page_engine.specs.Closing.{prompt_closed}
use Rattle.page_engine.specs.Scene.{scene_of}
use Rattle.page_engine.specs.declared.outcome.Outcome.{Outcome}
use Rattle.page_engine.proofs.MadeLemmas.{closing_made}
use Rattle.page_engine.proofs.page.Page.close_prompt.Goals as goal

pub returns-clause-made : goal.returns-clause-made
returns-clause-made c =
    let asked : c.close.new.asked ≡ (prompt_closed c.args.now c.args.prompt.now c.args.accepted (scene_of c.args.self.now)).asked = search rules in
    ap (λ (o : Outcome). o.made) asked ∙ closing_made c.args.now c.args.prompt.now c.args.accepted (scene_of c.args.self.now)
