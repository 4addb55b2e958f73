use Rattle.std.proofs.Common.{◌≡◌, false, drop}
use Rattle.page_engine.specs.Dispatch.{effects_along}
use Rattle.page_engine.specs.Effects.{effects_on}
use Rattle.page_engine.specs.Fitting.{anywhere}
use Rattle.page_engine.specs.Scene.{scene_in}
use Rattle.page_engine.proofs.dispatch.run_path.Given as goal

abbrev pub invariant-loop-node : goal.invariant-loop-node
invariant-loop-node l = record {
  rest : effects_on l.at anywhere (scene_in l.parts l.asked) (effects_along l.handlers l.kind (drop l.node-index l.path))
      ≡ effects_on l.at anywhere (scene_in l.initial.parts l.initial.asked) (effects_along l.handlers l.kind l.path);
  alive : l.parts.document.spent ≡ false;
}
