use Rattle.std.proofs.Common.{◌≡◌, false, drop}
use Rattle.page_engine.specs.Effects.{effects_on}
use Rattle.page_engine.specs.Scene.{scene_in}
use Rattle.page_engine.proofs.effects.run_effects.Given as goal

abbrev pub invariant-loop-effect : goal.invariant-loop-effect
invariant-loop-effect l = record {
  rest : effects_on l.at l.place (scene_in l.parts l.asked) (drop l.effect-index l.effect-items) ≡ effects_on l.at l.place (scene_in l.initial.parts l.initial.asked) l.effect-items;
  alive : l.parts.document.spent ≡ false;
}
