use Rattle.std.proofs.Common.{◌≡◌, drop}
use Rattle.page_file.specs.Leading.{effects_lead}
use Rattle.page_file.proofs.links.+leading.Given as goal

abbrev pub invariant-effects_lead-loop-effect : goal.invariant-effects_lead-loop-effect
invariant-effects_lead-loop-effect l = effects_lead l.pages l.base l.effect-items ≡ effects_lead l.pages l.base (drop l.effect-index l.effect-items)
