use Rattle.std.proofs.Common.{◌≡◌, ◌<◌, ◌≤◌, ℕ, List, ap, subst, refl, arith, length}
use Rattle.interaction.specs.Found.{Refuses}
use Rattle.page_tree.specs.DocumentState.{DocumentState}
use Rattle.page_tree.specs.Rows.{Rows}
use Rattle.selectors.specs.declared.fault.SelFault.{SelFault}
use Rattle.remote_end.specs.FindSpans.{Gives, soonest}
use Rattle.remote_end.specs.Waits.{GoesOn, HasEnded}
use Rattle.remote_end.proofs.PageTimers.{fewer_after}
use Rattle.remote_end.proofs.FindLemmas.{later, soonest_within, due_then, sought_lawful}
use Rattle.remote_end.proofs.WaitLemmas.{mid_fits}
use Rattle.remote_end.proofs.going.find_at.Goals as goal

pub advance-requires-clause-onwards : goal.advance-requires-clause-onwards
advance-requires-clause-onwards c = let l = later c.args.setting.now c.args.find c.args.session.now c.requires.fits in let n = c.requires.next in omega (arith, l, n)

pub advance-requires-clause-moment : goal.advance-requires-clause-moment
advance-requires-clause-moment c =
    let w = soonest_within c.args.find.until c.args.session.now.page.pending in let n = c.requires.next in let u = c.requires.fits.within in omega (arith, w, n, u)

pub returns-then-goes_on-clause-step : goal.returns-then-goes_on-clause-step
returns-then-goes_on-clause-step c =
    let on = c.goes_on.ensures.on c.if-goes_on.true in
    let rows = ap (λ (d : DocumentState). d.rows) c.document.ensures in
    let P : Rows → Type 0 = λ r. Gives c.args.find r c.in-Ok.nodes in
    let Q : List ℕ → Type 0 = Gives c.args.find c.advance.new.session.page.rows in
    GoesOn c.advance.new.session c.in_ok-advance.ensures.advanced (subst Q on.0 (subst P rows c.in-Ok.ensures.gives)) on.1 refl

pub returns-then-goes_on-clause-going : goal.returns-then-goes_on-clause-going
returns-then-goes_on-clause-going c =
    let on = c.goes_on.ensures.on c.if-goes_on.true in
    let rows = ap (λ (d : DocumentState). d.rows) c.document.ensures in
    let P : Rows → Type 0 = λ r. Gives c.args.find r c.in-Ok.nodes in
    let Q : List ℕ → Type 0 = Gives c.args.find c.advance.new.session.page.rows in
    let whole = c.in_ok-advance.ensures.whole in
    record {
      whole = record { known = whole.known; page = whole.page; timeouts = whole.timeouts; moment = whole.moment; address = whole.address };
      fits = mid_fits c.args.find c.args.session.now c.advance.new.session c.args.moment c.requires.fits c.in_ok-advance.ensures.advanced (subst Q on.0 (subst P rows c.in-Ok.ensures.gives)) on.1;
      status = tt;
    }

pub returns-then-goes_on-clause-fewer : goal.returns-then-goes_on-clause-fewer
returns-then-goes_on-clause-fewer c =
    let on = c.goes_on.ensures.on c.if-goes_on.true in
    let n : c.args.moment ≡ soonest c.args.find.until c.args.session.now.page.pending = c.requires.next in
    let due = due_then c.args.find.until c.args.session.now.page.pending (let short = on.1 in omega (arith, n, short)) in
    let within : due.1.0.0 ≤ soonest c.args.find.until c.args.session.now.page.pending = due.3 in
    let fewer : length c.advance.new.session.page.pending < length c.args.session.now.page.pending =
    fewer_after c.args.setting.now c.args.moment c.args.session.now.page c.args.session.now.at c.advance.new.session.page c.in_ok-advance.ensures.advanced.page due.0 due.1 due.2 (omega (arith, within, n)) in
    omega (arith, fewer)

pub returns-in_ok-reply-clause-step : goal.returns-in_ok-reply-clause-step
returns-in_ok-reply-clause-step c =
    let rows = ap (λ (d : DocumentState). d.rows) c.document.ensures in
    let P : Rows → Type 0 = λ r. Gives c.args.find r c.in-Ok.nodes in
    let w = soonest_within c.args.find.until c.args.session.now.page.pending in
    let n = c.requires.next in
    HasEnded c.advance.new.session c.nodes_reply.new.session c.in-Ok.nodes c.in_ok-reply.reply c.in_ok-advance.ensures.advanced (subst P rows c.in-Ok.ensures.gives)
    (c.goes_on.ensures.over (omega (arith, w, n)) c.if-goes_on.false) c.in_ok-reply.ensures.turn refl

pub unreachable-requires : goal.unreachable-requires
unreachable-requires c =
    let P : SelFault → Type 0 = λ fault. Refuses c.args.find.by c.args.find.text fault in
    sought_lawful c.args.find.by c.args.find.text c.requires.fits.sought (subst P c.in-Err-Invalid.field-0-is c.in-Err-Invalid.ensures.cause)
