use Rattle.std.proofs.Common.{◌≡◌, take}
use Rattle.page_engine.proofs.copying.+copied.Given as goal

abbrev pub invariant-copy_effects-loop-effect : goal.invariant-copy_effects-loop-effect
invariant-copy_effects-loop-effect l = l.copied.items ≡ take l.effect-index l.effect-items
