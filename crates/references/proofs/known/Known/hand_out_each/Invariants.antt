use Rattle.std.proofs.Common.{◌≡◌, false, Some}
use Rattle.std.specs.Prelude.{take}
use Rattle.references.specs.HandedAll.{handed_all}
use Rattle.references.proofs.known.Known.hand_out_each.Given as goal

-- the nodes so far got theirs
abbrev pub invariant-loop-node : goal.invariant-loop-node
invariant-loop-node l = record {
  so_far : handed_all l.fn.self l.kind l.document (take l.node-index l.node-items) ≡ Some (l.ids, l.self);
  unspent : l.self.spent ≡ false;
}
