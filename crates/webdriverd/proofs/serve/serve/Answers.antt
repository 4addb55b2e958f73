use Rattle.std.proofs.Common.{refl, ◌∙◌, arith, ◌≡◌, true, false, ap, take, List, [], ℕ, ◌++◌, length-append, length-take}
use Rattle.std.specs.List.{All}
use Rattle.std.proofs.lemmas.List.Elements.{All-from_recursion}
use Rattle.wd_http.specs.Stream.{Stream}
use Rattle.remote_end.specs.Outside.{outside}
use Rattle.webdriverd.specs.Serving.{IsWithin}
use Rattle.webdriverd.proofs.ServiceLemmas.{starts, goes_as, reads_on, ends_at_rest, ends_at_read, calls_none, within_on, takes_within, stands_on, stands_read, took_nothing}
use Rattle.webdriverd.proofs.serve.serve.Goals as goal

pub reads-init : goal.reads-init
reads-init g c = rw c.new-framer.ensures (record {
  goes = starts (outside g.C.Clock.now_gives g.C.Clock.rest_gives) g.L.Line.makes g.L.Line.tells (c.args.clock.now, c.args.evaluator.now) c.args.remote.now c.args.line.now (g.L.Line.talk c.args.line.now).here;
  within = calls_none g.L.Line.makes c.args.line.now (All IsWithin) (All-from_recursion IsWithin [] tt);
  stands = λ h. record { coming = refl; is_open = refl; past = refl; came_is = refl };
  good = refl;
  fresh_framer = refl;
  ready = c.requires;
  few = omega arith;
  room = refl;
  short = omega arith;
  faults = omega arith;
  refusals = refl;
})

pub returns-then-not-branch-clause-served : goal.returns-then-not-branch-clause-served
returns-then-not-branch-clause-served g c =
    goes_as (outside g.C.Clock.now_gives g.C.Clock.rest_gives) g.L.Line.makes g.L.Line.tells (c.args.clock.now, c.args.evaluator.now) (c.answer_all.new.clock, c.answer_all.new.evaluator) c.args.remote.now c.answer_all.new.remote c.args.line.now c.answer_all.new.line
    (g.L.Line.talk c.args.line.now).here (g.L.Line.talk c.answer_all.new.line).here c.answer_all.new.framer.unread c.answer_all.new.count _ false
    (c.in_ok-answer_all.ensures.goes (c.args.clock.now, c.args.evaluator.now) c.args.remote.now c.args.line.now (g.L.Line.talk c.args.line.now).here c.reads.invariant.goes) c.if-not-branch.true

pub returns-in_default-clause-served : goal.returns-in_default-clause-served
returns-in_default-clause-served g c =
    let u = goes_as (outside g.C.Clock.now_gives g.C.Clock.rest_gives) g.L.Line.makes g.L.Line.tells (c.args.clock.now, c.args.evaluator.now) (c.answer_all.new.clock, c.answer_all.new.evaluator) c.args.remote.now c.answer_all.new.remote c.args.line.now c.answer_all.new.line
    (g.L.Line.talk c.args.line.now).here (g.L.Line.talk c.answer_all.new.line).here c.answer_all.new.framer.unread c.answer_all.new.count _ true
    (c.in_ok-answer_all.ensures.goes (c.args.clock.now, c.args.evaluator.now) c.args.remote.now c.args.line.now (g.L.Line.talk c.args.line.now).here c.reads.invariant.goes) c.if-not-branch.false in
    ends_at_read (outside g.C.Clock.now_gives g.C.Clock.rest_gives) g.L.Line.makes g.L.Line.tells (c.args.clock.now, c.args.evaluator.now) (c.answer_all.new.clock, c.answer_all.new.evaluator) c.args.remote.now c.answer_all.new.remote c.args.line.now c.answer_all.new.line
    (g.L.Line.talk c.args.line.now).here (g.L.Line.talk c.answer_all.new.line).here c.answer_all.new.framer.unread c.answer_all.new.count u c.read.new.self (g.L.Line.talk c.read.new.self).here c.read.ensures.made (c.in_ok-answer_all.ensures.rests c.if-not-branch.false).front (λ h. (c.in_default.ensures.told h).1)

pub returns-then-n-eq0-clause-served : goal.returns-then-n-eq0-clause-served
returns-then-n-eq0-clause-served g c =
    let u = goes_as (outside g.C.Clock.now_gives g.C.Clock.rest_gives) g.L.Line.makes g.L.Line.tells (c.args.clock.now, c.args.evaluator.now) (c.answer_all.new.clock, c.answer_all.new.evaluator) c.args.remote.now c.answer_all.new.remote c.args.line.now c.answer_all.new.line
    (g.L.Line.talk c.args.line.now).here (g.L.Line.talk c.answer_all.new.line).here c.answer_all.new.framer.unread c.answer_all.new.count _ true
    (c.in_ok-answer_all.ensures.goes (c.args.clock.now, c.args.evaluator.now) c.args.remote.now c.args.line.now (g.L.Line.talk c.args.line.now).here c.reads.invariant.goes) c.if-not-branch.false in
    ends_at_rest (outside g.C.Clock.now_gives g.C.Clock.rest_gives) g.L.Line.makes g.L.Line.tells (c.args.clock.now, c.args.evaluator.now) (c.answer_all.new.clock, c.answer_all.new.evaluator) c.args.remote.now c.answer_all.new.remote c.args.line.now c.answer_all.new.line
    (g.L.Line.talk c.args.line.now).here (g.L.Line.talk c.answer_all.new.line).here c.answer_all.new.framer.unread c.answer_all.new.count u c.read.new.self (g.L.Line.talk c.read.new.self).here c.read.ensures.made (c.in_ok-answer_all.ensures.rests c.if-not-branch.false).front
    (λ h. (took_nothing _ _ _ _ c.if-n-eq0.true (c.in-Ok.ensures.told h).1, (c.in-Ok.ensures.told h).2 c.if-n-eq0.true (let l = c.read.auto.into in let m = c.reads.invariant.room in omega arith)))

fed : (a b : Stream) (piece : List ℕ) → a ≡ record b { unread = b.unread ++ piece } → a.unread ≡ b.unread ++ piece
fed a b piece e = ap (λ s. s.unread) e

pub reads-preserved : goal.reads-preserved
reads-preserved g c =
    let rests = c.in_ok-answer_all.ensures.rests c.if-not-branch.false in
    let now = c.in_ok-feed.ensures.fed rests.good in
    let more = fed c.feed.new.self c.answer_all.new.framer (take c.in-Ok.n c.read.new.into) now in
    record {
      goes =
          let u = goes_as (outside g.C.Clock.now_gives g.C.Clock.rest_gives) g.L.Line.makes g.L.Line.tells (c.args.clock.now, c.args.evaluator.now) (c.answer_all.new.clock, c.answer_all.new.evaluator) c.args.remote.now c.answer_all.new.remote c.args.line.now c.answer_all.new.line
          (g.L.Line.talk c.args.line.now).here (g.L.Line.talk c.answer_all.new.line).here c.answer_all.new.framer.unread c.answer_all.new.count _ true
          (c.in_ok-answer_all.ensures.goes (c.args.clock.now, c.args.evaluator.now) c.args.remote.now c.args.line.now (g.L.Line.talk c.args.line.now).here c.reads.invariant.goes) c.if-not-branch.false in
          rw more (reads_on (outside g.C.Clock.now_gives g.C.Clock.rest_gives) g.L.Line.makes g.L.Line.tells (c.args.clock.now, c.args.evaluator.now) (c.answer_all.new.clock, c.answer_all.new.evaluator) c.args.remote.now c.answer_all.new.remote c.args.line.now c.answer_all.new.line
          (g.L.Line.talk c.args.line.now).here (g.L.Line.talk c.answer_all.new.line).here c.answer_all.new.framer.unread c.answer_all.new.count u c.read.new.self (g.L.Line.talk c.read.new.self).here (take c.in-Ok.n c.read.new.into) c.read.ensures.made (λ h. (c.in-Ok.ensures.told h).1));
      within = within_on g.L.Line.makes c.args.line.now c.answer_all.new.line c.read.new.self
          (within_on g.L.Line.makes c.args.line.now c.reads.line c.answer_all.new.line c.reads.invariant.within c.answer_all.ensures.within)
          (takes_within g.L.Line.makes c.answer_all.new.line c.read.new.self c.read.ensures.made);
      stands = λ h. stands_on (c.reads.invariant.stands h) (stands_on (c.in_ok-answer_all.ensures.stands h) (stands_read _ _ _ (c.in-Ok.ensures.told h).0 (c.in-Ok.ensures.told h).1));
      good = ap (λ s. s.bad) now ∙ rests.good;
      fresh_framer = ap (λ s. s.spent) now ∙ rests.fresh;
      ready = c.in_ok-answer_all.ensures.ready;
      few = rests.few;
      room = c.read.auto.into ∙ c.reads.invariant.room;
      short = let s = rests.short in let b = c.in-Ok.ensures.bound in rw more (omega (arith, length-append c.answer_all.new.framer.unread (take c.in-Ok.n c.read.new.into), length-take c.in-Ok.n c.read.new.into));
      faults = omega (arith, c.reads.invariant.faults, c.answer_all.ensures.faults, c.in-Ok.ensures.cause);
      refusals = c.read.ensures.refusal ∙ c.answer_all.ensures.refusals ∙ c.reads.invariant.refusals;
    }

pub returns-in_err-answer_all-clause-within : goal.returns-in_err-answer_all-clause-within
returns-in_err-answer_all-clause-within g c = within_on g.L.Line.makes c.args.line.now c.reads.line c.answer_all.new.line c.reads.invariant.within c.answer_all.ensures.within

pub returns-then-not-branch-clause-within : goal.returns-then-not-branch-clause-within
returns-then-not-branch-clause-within g c = within_on g.L.Line.makes c.args.line.now c.reads.line c.answer_all.new.line c.reads.invariant.within c.answer_all.ensures.within

pub returns-in_default-clause-within : goal.returns-in_default-clause-within
returns-in_default-clause-within g c =
    within_on g.L.Line.makes c.args.line.now c.answer_all.new.line c.read.new.self
    (within_on g.L.Line.makes c.args.line.now c.reads.line c.answer_all.new.line c.reads.invariant.within c.answer_all.ensures.within)
    (takes_within g.L.Line.makes c.answer_all.new.line c.read.new.self c.read.ensures.made)

pub returns-then-n-eq0-clause-within : goal.returns-then-n-eq0-clause-within
returns-then-n-eq0-clause-within g c =
    within_on g.L.Line.makes c.args.line.now c.answer_all.new.line c.read.new.self
    (within_on g.L.Line.makes c.args.line.now c.reads.line c.answer_all.new.line c.reads.invariant.within c.answer_all.ensures.within)
    (takes_within g.L.Line.makes c.answer_all.new.line c.read.new.self c.read.ensures.made)

pub returns-in_err-feed-clause-within : goal.returns-in_err-feed-clause-within
returns-in_err-feed-clause-within g c =
    within_on g.L.Line.makes c.args.line.now c.answer_all.new.line c.read.new.self
    (within_on g.L.Line.makes c.args.line.now c.reads.line c.answer_all.new.line c.reads.invariant.within c.answer_all.ensures.within)
    (takes_within g.L.Line.makes c.answer_all.new.line c.read.new.self c.read.ensures.made)
