use Rattle.std.proofs.Common.{List, Ok, Err, subst}
use Rattle.wd_errors.specs.declared.code.Code.{Code}
use Rattle.wd_json.specs.declared.fault.Fault.{Fault}
use Rattle.remote_end.specs.declared.session.Session.{Session}
use Rattle.remote_end.specs.State.{State, state_of}
use Rattle.remote_end.specs.Meaning.{Means, IsMeaning}
use Rattle.remote_end.proofs.NamingLemmas.{free_named}
use Rattle.remote_end.proofs.StepLemmas.{refused_at, acted_at}
use Rattle.remote_end.proofs.run.begin.Goals as goal

pub returns-in_ok-reply-in-Err-Refused-clause-begins : goal.returns-in_ok-reply-in-Err-Refused-clause-begins
returns-in_ok-reply-in-Err-Refused-clause-begins c =
    let P : List Session → Type 0 = λ sessions. Means (state_of c.args.next.now sessions) c.args.request.now (Err c.in-Err-Refused.code) in
    let Q : Fault Code → Type 0 = λ fault. IsMeaning (state_of c.args.next.now c.deref.result.now) c.args.request.now (Err fault) in
    refused_at c.args.setting.now (state_of c.args.next.now c.args.sessions.now.items) c.args.request.now c.args.reading c.in-Err-Refused.code c.in_ok-reply-in-Err-Refused.reply
    (subst P c.deref.ensures.value (subst Q c.in-Err-Refused.field-0-is c.in-Err-Refused.ensures)) c.in_ok-reply-in-Err-Refused.ensures.reply

pub returns-in_ok-step-in-Ok-clause-begins : goal.returns-in_ok-step-in-Ok-clause-begins
returns-in_ok-step-in-Ok-clause-begins c =
    let old : State = state_of c.args.next.now c.args.sessions.now.items in
    let new : State = state_of c.run_order.new.next c.run_order.new.sessions.items in
    let P : List Session → Type 0 = λ sessions. Means (state_of c.args.next.now sessions) c.args.request.now (Ok c.in-Ok.order) in
    acted_at c.args.setting.now old new c.args.request.now c.args.reading c.in-Ok.order c.in_ok-step-in-Ok.step
    (subst P c.deref.ensures.value c.in-Ok.ensures.0) c.in_ok-step-in-Ok.ensures.acts

pub run_order-requires-clause-free : goal.run_order-requires-clause-free
run_order-requires-clause-free c =
    let P : List Session → Type 0 = λ sessions. Means (state_of c.args.next.now sessions) c.args.request.now (Ok c.in-Ok.order) in
    free_named c.args.next.now c.args.sessions.now.items c.args.request.now c.in-Ok.order c.requires.sound c.requires.free (subst P c.deref.ensures.value c.in-Ok.ensures.0)
