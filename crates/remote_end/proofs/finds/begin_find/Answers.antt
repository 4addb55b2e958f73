use Rattle.std.proofs.Common.{List, ℕ, ap, subst, refl}
use Rattle.page_tree.specs.DocumentState.{DocumentState}
use Rattle.page_tree.specs.Rows.{Rows}
use Rattle.remote_end.specs.declared.session.Session.{Session}
use Rattle.remote_end.specs.FindSpans.{Gives}
use Rattle.remote_end.specs.Finds.{Looks, FindPlan}
use Rattle.remote_end.specs.State.{Leaves}
use Rattle.remote_end.proofs.FindLemmas.{gives_sought, plan_at_once}
use Rattle.remote_end.proofs.WaitLemmas.{settled_is}
use Rattle.remote_end.proofs.finds.begin_find.Goals as goal

pub returns-then-goes_on-clause-comes : goal.returns-then-goes_on-clause-comes
returns-then-goes_on-clause-comes c setting plan is =
    let P : Session → Type 0 = λ t. FindPlan setting c.args.find t plan in
    Looks (subst P (settled_is c.args.session.now c.requires.idle) is) refl

pub returns-then-goes_on-clause-leaves : goal.returns-then-goes_on-clause-leaves
returns-then-goes_on-clause-leaves c =
    let s = c.args.session.now in
    let on = c.goes_on.ensures.on c.if-goes_on.true in
    let rows = ap (λ (d : DocumentState). d.rows) c.document.ensures in
    let P : Rows → Type 0 = λ r. Gives c.args.find r c.in-Ok.nodes in
    let gives = subst P rows c.in-Ok.ensures.gives in
    let Q : List ℕ → Type 0 = Gives c.args.find s.page.rows in
    record {
      whole = record { known = c.requires.whole.known; page = c.requires.whole.page; timeouts = c.requires.whole.timeouts; moment = c.requires.whole.moment; address = c.requires.whole.address };
      fits = record {
        sought = gives_sought c.args.find s.page.rows c.in-Ok.nodes c.requires.starts gives;
        nothing = subst Q on.0 gives;
        short = on.1;
        within = c.requires.within;
        still = c.requires.still;
      };
      status = tt;
    }

pub returns-in-Ok-clause-comes : goal.returns-in-Ok-clause-comes
returns-in-Ok-clause-comes c setting =
    let s = c.args.session.now in
    let rows = ap (λ (d : DocumentState). d.rows) c.document.ensures in
    let P : Rows → Type 0 = λ r. Gives c.args.find r c.in-Ok.nodes in
    Looks (plan_at_once c.args.find s c.in-Ok.nodes c.in_ok-reply-in-Ok.reply (Leaves c.nodes_reply.new.session) c.requires.still (subst P rows c.in-Ok.ensures.gives)
    (c.goes_on.ensures.over c.requires.onwards c.if-goes_on.false) c.in_ok-reply-in-Ok.ensures.turn) refl
