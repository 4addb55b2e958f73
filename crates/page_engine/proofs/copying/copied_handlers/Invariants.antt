use Rattle.std.proofs.Common.{◌≡◌, take, map}
use Rattle.page_engine.proofs.copying.copied_handlers.Given as goal

abbrev pub invariant-loop-node : goal.invariant-loop-node
invariant-loop-node l = l.copied.items ≡ map (λ d. d.on) (take l.node-index l.node-items)
