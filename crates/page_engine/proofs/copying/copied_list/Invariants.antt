use Rattle.std.proofs.Common.{◌≡◌, take}
use Rattle.page_engine.proofs.copying.copied_list.Given as goal

abbrev pub invariant-loop-handler : goal.invariant-loop-handler
invariant-loop-handler l = l.copied.items ≡ take l.handler-index l.handler-items
