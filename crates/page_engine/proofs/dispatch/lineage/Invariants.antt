use Rattle.std.proofs.Common.{◌≡◌, ◌-◌, ◌++◌}
use Rattle.page_tree.specs.Places.{chain, lineage}
use Rattle.page_engine.proofs.dispatch.lineage.Given as goal

abbrev pub invariant-loop-i : goal.invariant-loop-i
invariant-loop-i l = l.nodes.items ++ chain (200 - l._i) l.document.rows.ups l.at ≡ lineage l.document.rows.ups l.fn.node
