use Rattle.std.proofs.Common.{◌≡◌, ◌∙◌, ap, Err}
use Rattle.references.specs.HandedAll.{taken_back}
use Rattle.references.proofs.AllHanded.{all_extends, taken_is, enough_is, short_is, back_to}
use Rattle.references.proofs.known.Known.hand_out_all.Goals as goal

pub returns-in-Ok-clause-taken : goal.returns-in-Ok-clause-taken
returns-in-Ok-clause-taken c = taken_is _ c.args.kind c.args.document c.args.nodes.now c.count-count.ensures.issued.fit _ _ c.in-Ok.ensures.ok

pub returns-in-Ok-clause-enough : goal.returns-in-Ok-clause-enough
returns-in-Ok-clause-enough c = enough_is _ c.args.kind c.args.document c.args.nodes.now c.count-count.ensures.issued.fit _ _ c.in-Ok.ensures.ok

pub returns-in-Ok-clause-unspent : goal.returns-in-Ok-clause-unspent
returns-in-Ok-clause-unspent c = (all_extends _ _ c.args.kind c.args.document c.args.nodes.now _ c.in-Ok.ensures.ok).spent ∙ c.requires.unspent

pub returns-in-Err-Full-clause-full : goal.returns-in-Err-Full-clause-full
returns-in-Err-Full-clause-full c =
    let none = c.in-Err-Full.ensures.full (ap Err c.in-Err-Full.field-0-is) in
    let back : taken_back c.hand_out_each.new.self c.count-count.result c.serial-serial.result ≡ c.args.self.now = rw (c.count-count.ensures.count, c.serial-serial.ensures) (back_to c.args.self.now c.hand_out_each.new.self none.1) in
    λ full. (short_is c.args.self.now c.args.kind c.args.document c.args.nodes.now c.count-count.ensures.issued.fit none.0, c.take_back.ensures ∙ back)
