use Rattle.std.proofs.Common.{◌≡◌, ◌≤◌, List, All}
use Rattle.page_engine.specs.declared.page_def.PageDef.{PageDef}
use Rattle.page_file.specs.Weighing.{weights, AreLoadsOf}
use Rattle.page_file.proofs.weights.first_heavy.Given as goal

abbrev pub invariant-loop : goal.invariant-loop
invariant-loop l = ((pages : List PageDef) → AreLoadsOf pages l.loads → l.known.items ≡ weights pages l.counter) × All (λ n. n ≤ 100001) l.known.items
