use Rattle.std.proofs.Common.{[], sym, refl, subst}
use Rattle.std.proofs.lemmas.Result.{IfOk-weaker}
use Rattle.endpoints.specs.declared.command.Command.{Command}
use Rattle.remote_end.specs.Plan.{at_once}
use Rattle.remote_end.specs.Rows.{row_of, IsAlone}
use Rattle.remote_end.specs.State.{State}
use Rattle.remote_end.proofs.run.run_alone.Goals as goal

pub returns-in-NewSession-clause-ends : goal.returns-in-NewSession-clause-ends
unfolding row_of
returns-in-NewSession-clause-ends c named =
    let old : State = record { next = c.args.next.now; sessions = c.args.sessions.now.items } in
    IfOk-weaker c.new_session.result _ _ (λ reply ends.
    let P : Command → Type 0 = λ command. IsAlone (row_of command) c.args.setting.now old c.args.order.now.parameters c.args.reading [] (at_once reply ends.after) in
    record { after = ends.after; act = subst P (sym c.in-NewSession.is) (refl, sym ends.plan_is); idle = ends.idle; new_is = ends.new_is }) (c.new_session.ensures.ends named)
