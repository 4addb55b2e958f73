use Rattle.std.proofs.Common.{◌≡◌, [], drop}
use Rattle.page_file.proofs.Frames.{targets_onto}
use Rattle.page_file.proofs.links.frame_targets.Given as goal

abbrev pub invariant-loop-node : goal.invariant-loop-node
invariant-loop-node l = targets_onto l.pages l.base [] l.nodes ≡ targets_onto l.pages l.base l.targets.items (drop l.node-index l.nodes)
