use Rattle.std.proofs.Common.{◌≡◌, ◌+◌, [], drop}
use Rattle.page_engine.specs.Opening.{with_timers}
use Rattle.page_engine.proofs.starting.pending.Given as goal

abbrev pub invariant-loop-timer : goal.invariant-loop-timer
invariant-loop-timer l = record {
  rest : with_timers l.moment l.number (drop l.timer-index l.timer-items) l.pending ≡ with_timers l.moment l.fn.first l.timer-items [];
  number : l.number ≡ l.fn.first + l.timer-index;
}
