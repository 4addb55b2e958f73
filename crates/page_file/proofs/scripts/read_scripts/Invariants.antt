use Rattle.std.proofs.Common.{◌≡◌, drop}
use Rattle.page_file.specs.Rows.{rows, rows_after}
use Rattle.page_file.specs.Scripts.{next_script, script}
use Rattle.page_file.specs.Seen.{HasKeys}
use Rattle.page_file.proofs.scripts.read_scripts.Given as goal

abbrev pub invariant-loop-value : goal.invariant-loop-value
invariant-loop-value l = record {
  read : rows next_script l.values ≡ rows_after next_script l.entries.items (drop l.value-index l.values);
  seen : HasKeys script l.seen l.entries.items;
}
