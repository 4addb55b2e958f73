use Rattle.std.proofs.Common.{◌≡◌, false, drop}
use Rattle.page_engine.specs.Dispatch.{effects_for}
use Rattle.page_engine.specs.Effects.{effects_on}
use Rattle.page_engine.specs.Fitting.{anywhere}
use Rattle.page_engine.specs.Scene.{scene_in}
use Rattle.page_engine.proofs.dispatch.run_handlers.Given as goal

abbrev pub invariant-loop-handler : goal.invariant-loop-handler
invariant-loop-handler l = record {
  rest : effects_on l.at anywhere (scene_in l.parts l.asked) (effects_for l.kind (drop l.handler-index l.handler-items))
      ≡ effects_on l.at anywhere (scene_in l.initial.parts l.initial.asked) (effects_for l.kind l.handler-items);
  alive : l.parts.document.spent ≡ false;
}
