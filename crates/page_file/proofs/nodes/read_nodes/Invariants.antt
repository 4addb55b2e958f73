use Rattle.page_file.proofs.NodesRead.{AreRead}
use Rattle.page_file.proofs.nodes.read_nodes.Given as goal

abbrev pub invariant-loop-value : goal.invariant-loop-value
invariant-loop-value l = AreRead l.values l.value-index l.defs.items l.depths.items l.flags.items
