use Rattle.std.proofs.Common.{◌≡◌, take}
use Rattle.page_tree.specs.Inside.{rows_of}
use Rattle.page_tree.specs.Texts.{texts_of}
use Rattle.page_tree.proofs.document.Document.texts_below.Given as goal

abbrev pub invariant-loop-node : goal.invariant-loop-node
invariant-loop-node l = l.joined ≡ texts_of (rows_of l.self-inside.nodes.items) (take l.node-index l.node-items)
