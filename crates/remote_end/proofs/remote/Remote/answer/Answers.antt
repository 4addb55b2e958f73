use Rattle.std.proofs.Common.{◌<◌, ℕ, Option, sym, ap, ◌∙◌, refl, subst}
use Rattle.std.specs.Prelude.{IsSome}
use Rattle.remote_end.specs.declared.step.Step.{Step as Outcome}
use Rattle.remote_end.specs.declared.step.Step.TheVariants.{Reply as Replied, Wait}
use Rattle.remote_end.specs.Outside.{outside}
use Rattle.remote_end.specs.Runs.{Answers}
use Rattle.remote_end.specs.Standing.{Standing}
use Rattle.remote_end.proofs.AnswerLemmas.{answers_all, rested_first, rested_next, rested_as, busy_while, fewer_left, rests_left}
use Rattle.remote_end.proofs.NamingLemmas.{free_idle}
use Rattle.remote_end.proofs.remote.Remote.answer.Goals as goal

pub begin-requires-clause-free : goal.begin-requires-clause-free
begin-requires-clause-free g c = free_idle c.args.self.now.state c.args.request.now c.requires.idle

pub rests-init : goal.rests-init
rests-init g c = record {
  alive = ap (λ (s : Standing). s.spent) c.in_ok-step.ensures.kept ∙ c.requires.alive;
  rested = rested_first (outside g.C.Clock.now_gives g.C.Clock.rest_gives) (c.args.clock.now, c.args.evaluator.now) (c.now-reading.new.self, c.args.evaluator.now) c.args.self.now c.args.request.now c.now-reading.result c.requires _ _ (c.now-reading.ensures, refl) c.in_ok-step.ensures.begins c.in_ok-step.ensures.kept;
  status = c.in_ok-step.ensures.status;
}

pub resume-requires-clause-busy : goal.resume-requires-clause-busy
resume-requires-clause-busy g c =
    let busy = busy_while (outside g.C.Clock.now_gives g.C.Clock.rest_gives) (c.args.clock.now, c.args.evaluator.now) (c.rests.clock, c.args.evaluator.now) c.args.self.now c.rests.self c.args.request.now c.now-reading.result c.in-Wait.session c.in-Wait.until c.rests.step
    c.requires c.rests.invariant.rested c.in-Wait.is in
    let P : Option ℕ → Type 0 = λ o. IsSome o in
    subst P (sym busy) refl

pub rests-smaller : goal.rests-smaller
rests-smaller g c =
    let busy = busy_while (outside g.C.Clock.now_gives g.C.Clock.rest_gives) (c.args.clock.now, c.args.evaluator.now) (c.rests.clock, c.args.evaluator.now) c.args.self.now c.rests.self c.args.request.now c.now-reading.result c.in-Wait.session c.in-Wait.until c.rests.step
    c.requires c.rests.invariant.rested c.in-Wait.is in
    let late = c.rest_until-reading.ensures.late in
    let P : Outcome → Type 0 = λ o. rests_left c.in_ok-step-in-Wait.step c.resume.new.self.state.sessions < rests_left o c.rests.self.state.sessions in
    subst P (sym c.in-Wait.is) (fewer_left c.rests.self.state c.resume.new.self.state c.in-Wait.session c.in-Wait.until c.rest_until-reading.result busy late c.in_ok-step-in-Wait.step
    (c.in_ok-step-in-Wait.ensures.resumes c.in-Wait.until busy late))

pub rests-preserved : goal.rests-preserved
rests-preserved g c =
    let busy = busy_while (outside g.C.Clock.now_gives g.C.Clock.rest_gives) (c.args.clock.now, c.args.evaluator.now) (c.rests.clock, c.args.evaluator.now) c.args.self.now c.rests.self c.args.request.now c.now-reading.result c.in-Wait.session c.in-Wait.until c.rests.step
    c.requires c.rests.invariant.rested c.in-Wait.is in
    let late = c.rest_until-reading.ensures.late in
    let kept = c.in_ok-step-in-Wait.ensures.kept c.in-Wait.until busy late in
    record {
      alive = ap (λ (s : Standing). s.spent) kept ∙ c.rests.invariant.alive;
      rested = rested_next (outside g.C.Clock.now_gives g.C.Clock.rest_gives) (c.args.clock.now, c.args.evaluator.now) (c.rests.clock, c.args.evaluator.now) c.args.self.now c.args.request.now c.now-reading.result c.requires c.rests.self c.resume.new.self
          c.in-Wait.session c.in-Wait.until c.rest_until-reading.result c.in_ok-step-in-Wait.step (c.rest_until-reading.new.self, c.args.evaluator.now)
          (rested_as (outside g.C.Clock.now_gives g.C.Clock.rest_gives) (c.args.clock.now, c.args.evaluator.now) (c.rests.clock, c.args.evaluator.now) c.args.self.now c.rests.self c.args.request.now c.now-reading.result c.rests.step (Wait c.in-Wait.session c.in-Wait.until) c.in-Wait.is c.rests.invariant.rested)
          late (c.rest_until-reading.ensures.gives, refl) (c.in_ok-step-in-Wait.ensures.resumes c.in-Wait.until busy late) kept;
      status = c.in_ok-step-in-Wait.ensures.status;
    }

pub returns-in-Reply-clause-answers : goal.returns-in-Reply-clause-answers
returns-in-Reply-clause-answers g c =
    let makes = outside {E = g.row.E.Denot} g.C.Clock.now_gives g.C.Clock.rest_gives in
    let rested = rested_as makes (c.args.clock.now, c.args.evaluator.now) (c.rests.clock, c.args.evaluator.now) c.args.self.now c.rests.self c.args.request.now c.now-reading.result c.rests.step (Replied c.in-Reply.reply) c.in-Reply.is c.rests.invariant.rested in
    let P : g.row.E.Denot → Type 0 = λ evaluator. Answers makes (c.args.clock.now, c.args.evaluator.now) (c.rests.clock, evaluator) c.args.self.now c.rests.self c.args.request.now c.in-Reply.reply in
    subst P (sym c.begin.ensures.evaluator) (answers_all makes (c.args.clock.now, c.args.evaluator.now) (c.rests.clock, c.args.evaluator.now) c.args.self.now c.args.request.now c.now-reading.result c.requires c.rests.self c.in-Reply.reply rested)
