use Rattle.std.proofs.Common.{◌≡◌, drop}
use Rattle.std.specs.Prelude.{filter}
use Rattle.selectors.specs.Named.{is_named}
use Rattle.selectors.proofs.selecting.first.Given as goal

abbrev pub invariant-loop-node : goal.invariant-loop-node
invariant-loop-node l = filter (is_named l.document.rows l.selector) l.node-items ≡ filter (is_named l.document.rows l.selector) (drop l.node-index l.node-items)
