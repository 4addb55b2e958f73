use Rattle.std.proofs.Common.{◌≡◌, drop}
use Rattle.page_file.specs.Leading.{handlers_lead}
use Rattle.page_file.proofs.links.handlers_lead.Given as goal

abbrev pub invariant-loop-effects : goal.invariant-loop-effects
invariant-loop-effects l = handlers_lead l.pages l.base l.effects-items ≡ handlers_lead l.pages l.base (drop l.effects-index l.effects-items)
