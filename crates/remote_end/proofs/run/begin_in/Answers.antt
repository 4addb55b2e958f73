use Rattle.std.proofs.Common.{ℕ, sym, subst}
use Rattle.remote_end.specs.Advance.{NoneDue}
use Rattle.remote_end.proofs.AdvanceMoreLemmas.{over_after, at_of}
use Rattle.remote_end.proofs.run.begin_in.Goals as goal

pub row-requires-clause-still : goal.row-requires-clause-still
row-requires-clause-still c =
    let a = c.in_ok-advance.ensures.advanced in
    let P : ℕ → Type 0 = λ m. NoneDue c.advance.new.session.page.pending m in
    subst P (sym (at_of c.args.session.now c.advance.new.session c.args.start a)) (over_after c.args.setting.now c.args.start c.args.session.now.page c.args.session.now.at c.advance.new.session.page a.page)
