use Rattle.std.proofs.Common.{◌≡◌, Some, sym, ap, ◌∙◌, refl}
use Rattle.remote_end.specs.declared.session.Session.{Session}
use Rattle.remote_end.specs.declared.setting.Setting.{Setting}
use Rattle.remote_end.specs.Waits.{next_moment}
use Rattle.remote_end.proofs.WaitLemmas.{waits_back, ends_carried, same_number, later_than, reaches_in}
use Rattle.remote_end.proofs.carrying.carry.Goals as goal

pub returns-in-Some-clause-comes : goal.returns-in-Some-clause-comes
returns-in-Some-clause-comes c =
    let b = c.run_to.new.activity.1 in
    let reaches = reaches_in c.args.going.now.0 c.args.reading c.args.going.now c.run_to.new.activity refl c.in_ok-until.ensures.reaches in
    let next : next_moment b ≡ Some c.in-Some.until = sym c.in_ok-until.ensures.next ∙ c.in-Some.is in
    let later = later_than _ c.in-Some.until c.args.reading c.in-Some.is c.in_ok-until.ensures.later in (
      b,
      refl,
      record {
        number_is = ap (λ (g : Setting × Session). g.1.number) c.going.view_is;
        next = next;
        later = later;
        leads = λ rest is. waits_back c.args.going.now.0 c.args.reading c.args.going.now.1 b reaches c.in-Some.until next later c.requires.fits rest is;
      },
    )

pub returns-in-Some-clause-number : goal.returns-in-Some-clause-number
returns-in-Some-clause-number c =
    same_number c.args.going.now.0 c.args.reading c.args.going.now.1 c.run_to.new.activity.1 (reaches_in c.args.going.now.0 c.args.reading c.args.going.now c.run_to.new.activity refl c.in_ok-until.ensures.reaches)

pub returns-in-None-clause-comes : goal.returns-in-None-clause-comes
returns-in-None-clause-comes c =
    let reaches = reaches_in c.args.going.now.0 c.args.reading c.args.going.now c.run_to.new.activity refl c.in_ok-until.ensures.reaches in
    ends_carried c.args.going.now.0 c.args.reading c.args.going.now.1 c.run_to.new.activity.1 c.take_reply-reply.new.session c.take_reply-reply.result reaches c.requires.fits
    (sym (ap (λ (g : Setting × Session). g.1) c.going.view_is) ∙ c.take_reply-reply.ensures.ended) c.take_reply-reply.ensures.idle

pub returns-in-None-clause-number : goal.returns-in-None-clause-number
returns-in-None-clause-number c =
    let reaches = reaches_in c.args.going.now.0 c.args.reading c.args.going.now c.run_to.new.activity refl c.in_ok-until.ensures.reaches in
    sym (ap (λ (s : Session). s.number) (sym (ap (λ (g : Setting × Session). g.1) c.going.view_is) ∙ c.take_reply-reply.ensures.ended)) ∙ same_number c.args.going.now.0 c.args.reading c.args.going.now.1 c.run_to.new.activity.1 reaches
