use Rattle.std.proofs.Common.{sym, ◌∙◌}
use Rattle.remote_end.proofs.FindLemmas.{soonest_first, soonest_none}
use Rattle.remote_end.proofs.going.soonest.Goals as goal

pub returns-in-Some : goal.returns-in-Some
returns-in-Some c = c.min.ensures ∙ soonest_first c.args.until c.args.page.now.pending c.in-Some.due c.next_due.ensures.order (sym c.next_due.ensures.due ∙ c.in-Some.is)

pub returns-in-None : goal.returns-in-None
returns-in-None c = soonest_none c.args.until c.args.page.now.pending (sym c.next_due.ensures.due ∙ c.in-None.is)
