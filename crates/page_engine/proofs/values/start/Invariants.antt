use Rattle.std.proofs.Common.{◌≡◌}
use Rattle.page_engine.proofs.FirstSteps.{partly}
use Rattle.page_engine.proofs.values.start.Given as goal

abbrev pub invariant-loop-number : goal.invariant-loop-number
invariant-loop-number l = l.document ≡ partly l.initial.document l.number
