use Rattle.std.proofs.Common.{subst}
use Rattle.page_engine.specs.Timers.{AreInOrder}
use Rattle.page_engine.proofs.Turns.{in_order}
use Rattle.page_engine.proofs.timers.Timers.law.Goals as goal

pub returns : goal.returns
returns c = subst AreInOrder c.self.view_is (in_order c.self.inside.turns.entries c.len.ensures.ordered)
