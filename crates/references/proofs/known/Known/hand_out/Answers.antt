use Rattle.std.proofs.Common.{sym}
use Rattle.std.proofs.lemmas.Bool.{false≢true}
use Rattle.references.proofs.Issuing.{issued_entry}
use Rattle.references.proofs.known.Known.hand_out.Goals as goal

-- the name is new, and takes the next serial
pub invariant_of-self-in-Ok : goal.invariant_of-self-in-Ok
invariant_of-self-in-Ok c =
    rw (c.in_ok-id.ensures.taken, c.in-Ok.ensures.added, c.serial-serial.ensures.next)
    (issued_entry _ c.self.invariant (λ last. false≢true (c.in_ok-id.ensures.full.1 last)) c.args.kind c.args.node c.requires.node_kind (sym c.in_default.ensures))
