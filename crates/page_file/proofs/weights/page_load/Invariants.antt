use Rattle.std.proofs.Common.{◌≡◌, ◌+◌, map, take}
use Rattle.std.specs.List.{sum}
use Rattle.page_file.specs.Weighing.{capped, frame_load}
use Rattle.page_file.proofs.weights.page_load.Given as goal

abbrev pub invariant-loop-target : goal.invariant-loop-target
invariant-loop-target l = l.weight ≡ capped (l.load.nodes + sum (map (frame_load l.known) (take l.target-index l.target-items)))
