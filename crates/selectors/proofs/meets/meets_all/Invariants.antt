use Rattle.std.proofs.Common.{◌≡◌, drop}
use Rattle.std.specs.List.{list_all}
use Rattle.selectors.specs.Meets.{meets}
use Rattle.selectors.proofs.meets.meets_all.Given as goal

abbrev pub invariant-loop-simple : goal.invariant-loop-simple
invariant-loop-simple l = list_all (meets l.document.rows l.node) (l.compound) ≡ list_all (meets l.document.rows l.node) (drop l.simple-index l.simple-items)
