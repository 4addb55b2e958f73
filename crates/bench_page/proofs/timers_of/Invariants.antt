use Rattle.std.proofs.Common.{◌≡◌}
use Rattle.bench_page.specs.Flat.{a_timer, repeated}
use Rattle.bench_page.proofs.timers_of.Given as goal

abbrev pub invariant-loop-i : goal.invariant-loop-i
invariant-loop-i l = l.list ≡ repeated l._i a_timer
