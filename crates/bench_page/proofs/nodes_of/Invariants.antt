use Rattle.std.proofs.Common.{◌≡◌, ◌∷◌}
use Rattle.bench_page.specs.Flat.{a_root, a_field, repeated}
use Rattle.bench_page.proofs.nodes_of.Given as goal

abbrev pub invariant-loop-i : goal.invariant-loop-i
invariant-loop-i l = l.nodes ≡ a_root ∷ repeated l._i a_field
