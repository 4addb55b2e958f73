use Rattle.references.proofs.Issuing.{issued_none}
use Rattle.references.proofs.known.Known.new.Goals as goal

pub invariant_of-result : goal.invariant_of-result
invariant_of-result c = rw (c.serial-first.ensures.next, c.new.ensures.empty) (issued_none c.args.ids c.serial-first.ensures.fit)
