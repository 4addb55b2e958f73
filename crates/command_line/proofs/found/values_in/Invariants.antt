use Rattle.std.proofs.Common.{◌≡◌, map}
use Rattle.clap.specs.Words.{found_of, rows_of}
use Rattle.command_line.specs.Command.{values_at}
use Rattle.command_line.proofs.found.values_in.Given as goal

abbrev pub invariant-loop-id : goal.invariant-loop-id
invariant-loop-id l = map (λ p. (p.0.now, p.1.now)) l.values.items ≡ values_at (rows_of (found_of l.found)) (map (λ id. id.now) l.yielded)
