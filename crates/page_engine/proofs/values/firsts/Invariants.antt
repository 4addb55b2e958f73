use Rattle.std.proofs.Common.{◌≡◌}
use Rattle.page_engine.specs.Opening.{for_each}
use Rattle.page_engine.specs.FirstValues.{first_at}
use Rattle.page_engine.proofs.values.firsts.Given as goal

abbrev pub invariant-loop-number : goal.invariant-loop-number
invariant-loop-number l = l.firsts.items ≡ for_each (first_at l.document.rows) l.number
