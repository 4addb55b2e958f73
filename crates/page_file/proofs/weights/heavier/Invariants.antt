use Rattle.std.proofs.Common.{◌≡◌, ◌≤◌, All, map, take}
use Rattle.page_file.specs.Weighing.{page_load}
use Rattle.page_file.proofs.weights.heavier.Given as goal

abbrev pub invariant-loop-load : goal.invariant-loop-load
invariant-loop-load l = (l.weights.items ≡ map (page_load l.known) (take l.load-index l.loads)) × All (λ n. n ≤ 100001) l.weights.items
