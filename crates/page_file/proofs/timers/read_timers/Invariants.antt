use Rattle.std.proofs.Common.{◌≡◌, ◌≤◌, drop, length}
use Rattle.page_file.specs.Rows.{rows, rows_after}
use Rattle.page_file.specs.Timers.{next_timer}
use Rattle.page_file.proofs.timers.read_timers.Given as goal

abbrev pub invariant-loop-value : goal.invariant-loop-value
invariant-loop-value l = record {
  read : rows next_timer l.values ≡ rows_after next_timer l.timers.items (drop l.value-index l.values);
  few : length l.timers.items ≤ 1000;
}
