use Rattle.std.proofs.Common.{◌∙◌}
use Rattle.page_engine.specs.Scene.{scene_in}
use Rattle.page_engine.proofs.Runs.{handler_step}
use Rattle.page_engine.proofs.dispatch.run_handlers.Goals as goal

pub loop-handler-preserved : goal.loop-handler-preserved
loop-handler-preserved c = record {
  rest = handler_step c.args.at c.args.kind (scene_in c.loop-handler.parts c.loop-handler.asked) (scene_in c.run_handler.new.parts c.run_handler.new.asked)
      c.as_slice-handler-items.result.now c.loop-handler.handler-index c.handler-item.result c.loop-handler-test.true c.handler-item.is c.in_ok-run_handler.ensures.ok
      ∙ c.loop-handler.invariant.rest;
  alive = c.in_ok-run_handler.ensures.alive;
}
