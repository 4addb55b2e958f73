use Rattle.std.proofs.Common.{ap, ◌∙◌}
use Rattle.page_engine.specs.Timers.{first_due}
use Rattle.page_engine.proofs.Turns.{first_of}
use Rattle.page_engine.proofs.timers.Timers.first_due.Goals as goal

pub returns-in-Some : goal.returns-in-Some
returns-in-Some c =
    first_of c.self.inside.turns.entries c.in-Some.turn.now c.in-Some.field-0-1.now c.in-Some.ensures.first ∙ ap first_due c.self.view_is
