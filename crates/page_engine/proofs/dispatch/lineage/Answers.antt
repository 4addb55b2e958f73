use Rattle.std.proofs.Common.{sym, ◌∙◌}
use Rattle.page_tree.specs.Places.{lineage}
use Rattle.page_engine.proofs.Runs.{lineage_step}
use Rattle.page_engine.proofs.dispatch.lineage.Goals as goal

pub loop-i-preserved : goal.loop-i-preserved
loop-i-preserved c =
    let ups = c.args.document.now.rows.ups in
    lineage_step c.loop-i.nodes.items c.push.new.self.items (lineage ups c.args.node) 200 c.loop-i._i ups c.loop-i.at c.in-Some.up
    c.loop-i-test.true (sym c.parent.ensures ∙ c.in-Some.is) c.in_ok-push.ensures.items c.loop-i.invariant
