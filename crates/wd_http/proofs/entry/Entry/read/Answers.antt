use Rattle.std.proofs.Common.{◌≡◌, ◌∙◌, ◌+◌, ◌-◌, refl, arith, length-take, length, take}
use Rattle.wd_http.proofs.EntryLemmas.{piece_left, piece_took}
use Rattle.wd_http.proofs.entry.Entry.read.Goals as goal

pub returns-clause-left : goal.returns-clause-left
returns-clause-left c =
    let fits : length (take c.min-n.result c.args.into.now) ≡ c.min-n.result = omega (arith, length-take c.min-n.result c.args.into.now) in
    let k : c.self.inside.at + c.min-n.result - c.self.inside.at ≡ c.min-n.result = omega arith in
    rw (← c.self.view_is) (piece_left c.self.inside.bytes c.copy_from_slice.new.self _ c.self.inside.at c.min-n.result
    (c.copy_from_slice.ensures.len ∙ fits) (c.copy_from_slice.ensures.after ∙ rw (k, c.as_slice.ensures) refl))

pub returns-clause-took : goal.returns-clause-took
returns-clause-took c =
    let fits : length (take c.min-n.result c.args.into.now) ≡ c.min-n.result = omega (arith, length-take c.min-n.result c.args.into.now) in
    let k : c.self.inside.at + c.min-n.result - c.self.inside.at ≡ c.min-n.result = omega arith in
    rw (← c.self.view_is) (piece_took c.self.inside.bytes c.copy_from_slice.new.self _ c.self.inside.at c.min-n.result
    (c.copy_from_slice.ensures.len ∙ fits) (c.copy_from_slice.ensures.after ∙ rw (k, c.as_slice.ensures) refl))
