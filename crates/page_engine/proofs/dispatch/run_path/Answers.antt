use Rattle.std.proofs.Common.{◌∙◌}
use Rattle.page_engine.specs.Scene.{scene_in}
use Rattle.page_engine.proofs.Runs.{along_step}
use Rattle.page_engine.proofs.dispatch.run_path.Goals as goal

pub loop-node-preserved : goal.loop-node-preserved
loop-node-preserved c = record {
  rest = along_step c.args.at c.args.kind (scene_in c.loop-node.parts c.loop-node.asked) (scene_in c.run_node.new.parts c.run_node.new.asked)
      c.args.handlers.now c.args.path.now c.loop-node.node-index c.node-item.result c.loop-node-test.true c.node-item.is c.in_ok-run_node.ensures.ok
      ∙ c.loop-node.invariant.rest;
  alive = c.in_ok-run_node.ensures.alive;
}
