use Rattle.std.proofs.Common.{◌∙◌, arith, refl, subst}
use Rattle.remote_end.specs.Outside.{outside}
use Rattle.webdriverd.specs.Attended.{RefusedBy}
use Rattle.webdriverd.specs.declared.turn.Came.{Came}
use Rattle.webdriverd.specs.declared.turn.Came.TheVariants.{Served, NoneCame, Refused}
use Rattle.webdriverd.proofs.AttendLemmas.{came_as, attended_all, attended_short, most_all, most_short, most_more, left_all, left_short}
use Rattle.webdriverd.proofs.TurnLemmas.{turned_none, turned_on}
use Rattle.webdriverd.proofs.attend.attend.Goals as goal

pub loop-served-init : goal.loop-served-init
loop-served-init g c = record {
  few = omega arith;
  turned = turned_none (outside g.C.Clock.now_gives g.C.Clock.rest_gives) g.L.Line.makes g.L.Line.tells (c.args.clock.now, c.args.evaluator.now) c.args.remote.now c.args.line.now (g.L.Line.talk c.args.line.now);
  ready = c.requires;
  refusals = refl;
}

pub loop-served-preserved : goal.loop-served-preserved
loop-served-preserved g c = record {
  few = let more = c.loop-served-test.true in omega (arith, more);
  turned =
      turned_on (outside g.C.Clock.now_gives g.C.Clock.rest_gives) g.L.Line.makes g.L.Line.tells (c.args.clock.now, c.args.evaluator.now) (c.loop-served.clock, c.loop-served.evaluator) (c.serve_next.new.clock, c.serve_next.new.evaluator) c.args.remote.now c.loop-served.remote c.serve_next.new.remote c.args.line.now c.loop-served.line c.serve_next.new.line (g.L.Line.talk c.args.line.now) (g.L.Line.talk c.loop-served.line) (g.L.Line.talk c.serve_next.new.line) c.loop-served.served c.loop-served.invariant.turned
      (came_as (outside g.C.Clock.now_gives g.C.Clock.rest_gives) (c.loop-served.clock, c.loop-served.evaluator) (c.serve_next.new.clock, c.serve_next.new.evaluator) c.loop-served.remote c.serve_next.new.remote g.L.Line.makes c.loop-served.line c.serve_next.new.line g.L.Line.tells (g.L.Line.talk c.loop-served.line) (g.L.Line.talk c.serve_next.new.line) c.in_ok-serve_next.field-0 Served c.in-Served.is c.in_ok-serve_next.ensures.came);
  ready = c.in_ok-serve_next.ensures.ready;
  refusals =
      let P : Came → Type 0 = RefusedBy (g.L.Line.refusals c.loop-served.line) (g.L.Line.refusals c.serve_next.new.line) in
      subst P c.in-Served.is c.in_ok-serve_next.ensures.refusals ∙ c.loop-served.invariant.refusals;
}

pub returns-in_err-serve_next-clause-most : goal.returns-in_err-serve_next-clause-most
returns-in_err-serve_next-clause-most g c = most_more (outside g.C.Clock.now_gives g.C.Clock.rest_gives) g.L.Line.makes g.L.Line.tells (c.args.clock.now, c.args.evaluator.now) (c.loop-served.clock, c.loop-served.evaluator) (c.serve_next.new.clock, c.serve_next.new.evaluator) c.args.remote.now c.loop-served.remote c.serve_next.new.remote c.args.line.now c.loop-served.line c.serve_next.new.line (g.L.Line.talk c.args.line.now) (g.L.Line.talk c.loop-served.line) (g.L.Line.talk c.serve_next.new.line) c.loop-served.served c.args.connections c.loop-served.invariant.turned c.loop-served-test.true c.in_err-serve_next.ensures.visits

pub returns-in-NoneCame-clause-attended : goal.returns-in-NoneCame-clause-attended
returns-in-NoneCame-clause-attended g c =
    attended_short (outside g.C.Clock.now_gives g.C.Clock.rest_gives) g.L.Line.makes g.L.Line.tells (c.args.clock.now, c.args.evaluator.now) (c.loop-served.clock, c.loop-served.evaluator) (c.serve_next.new.clock, c.serve_next.new.evaluator) c.args.remote.now c.loop-served.remote c.serve_next.new.remote c.args.line.now c.loop-served.line c.serve_next.new.line (g.L.Line.talk c.args.line.now) (g.L.Line.talk c.loop-served.line) (g.L.Line.talk c.serve_next.new.line) c.loop-served.served c.args.connections c.loop-served.invariant.turned c.loop-served-test.true
    (came_as (outside g.C.Clock.now_gives g.C.Clock.rest_gives) (c.loop-served.clock, c.loop-served.evaluator) (c.serve_next.new.clock, c.serve_next.new.evaluator) c.loop-served.remote c.serve_next.new.remote g.L.Line.makes c.loop-served.line c.serve_next.new.line g.L.Line.tells (g.L.Line.talk c.loop-served.line) (g.L.Line.talk c.serve_next.new.line) c.in_ok-serve_next.field-0 NoneCame c.in-NoneCame.is c.in_ok-serve_next.ensures.came).0

pub returns-in-NoneCame-clause-most : goal.returns-in-NoneCame-clause-most
returns-in-NoneCame-clause-most g c =
    most_short (outside g.C.Clock.now_gives g.C.Clock.rest_gives) g.L.Line.makes g.L.Line.tells (c.args.clock.now, c.args.evaluator.now) (c.loop-served.clock, c.loop-served.evaluator) (c.serve_next.new.clock, c.serve_next.new.evaluator) c.args.remote.now c.loop-served.remote c.serve_next.new.remote c.args.line.now c.loop-served.line c.serve_next.new.line (g.L.Line.talk c.args.line.now) (g.L.Line.talk c.loop-served.line) (g.L.Line.talk c.serve_next.new.line) c.loop-served.served c.args.connections c.loop-served.invariant.turned c.loop-served-test.true
    (came_as (outside g.C.Clock.now_gives g.C.Clock.rest_gives) (c.loop-served.clock, c.loop-served.evaluator) (c.serve_next.new.clock, c.serve_next.new.evaluator) c.loop-served.remote c.serve_next.new.remote g.L.Line.makes c.loop-served.line c.serve_next.new.line g.L.Line.tells (g.L.Line.talk c.loop-served.line) (g.L.Line.talk c.serve_next.new.line) c.in_ok-serve_next.field-0 NoneCame c.in-NoneCame.is c.in_ok-serve_next.ensures.came).0.asks

pub returns-in-NoneCame-clause-left : goal.returns-in-NoneCame-clause-left
returns-in-NoneCame-clause-left g c = λ h.
    let none = came_as (outside g.C.Clock.now_gives g.C.Clock.rest_gives) (c.loop-served.clock, c.loop-served.evaluator) (c.serve_next.new.clock, c.serve_next.new.evaluator) c.loop-served.remote c.serve_next.new.remote g.L.Line.makes c.loop-served.line c.serve_next.new.line g.L.Line.tells (g.L.Line.talk c.loop-served.line) (g.L.Line.talk c.serve_next.new.line) c.in_ok-serve_next.field-0 NoneCame c.in-NoneCame.is c.in_ok-serve_next.ensures.came in
    left_short (outside g.C.Clock.now_gives g.C.Clock.rest_gives) g.L.Line.makes g.L.Line.tells (c.args.clock.now, c.args.evaluator.now) (c.loop-served.clock, c.loop-served.evaluator) (c.serve_next.new.clock, c.serve_next.new.evaluator) c.args.remote.now c.loop-served.remote c.serve_next.new.remote c.args.line.now c.loop-served.line c.serve_next.new.line (g.L.Line.talk c.args.line.now) (g.L.Line.talk c.loop-served.line) (g.L.Line.talk c.serve_next.new.line) c.loop-served.served c.args.connections c.loop-served.invariant.turned c.loop-served-test.true h (none.0.told h) (none.1 h)

pub returns-in-Refused-clause-attended : goal.returns-in-Refused-clause-attended
returns-in-Refused-clause-attended g c =
    attended_short (outside g.C.Clock.now_gives g.C.Clock.rest_gives) g.L.Line.makes g.L.Line.tells (c.args.clock.now, c.args.evaluator.now) (c.loop-served.clock, c.loop-served.evaluator) (c.serve_next.new.clock, c.serve_next.new.evaluator) c.args.remote.now c.loop-served.remote c.serve_next.new.remote c.args.line.now c.loop-served.line c.serve_next.new.line (g.L.Line.talk c.args.line.now) (g.L.Line.talk c.loop-served.line) (g.L.Line.talk c.serve_next.new.line) c.loop-served.served c.args.connections c.loop-served.invariant.turned c.loop-served-test.true
    (came_as (outside g.C.Clock.now_gives g.C.Clock.rest_gives) (c.loop-served.clock, c.loop-served.evaluator) (c.serve_next.new.clock, c.serve_next.new.evaluator) c.loop-served.remote c.serve_next.new.remote g.L.Line.makes c.loop-served.line c.serve_next.new.line g.L.Line.tells (g.L.Line.talk c.loop-served.line) (g.L.Line.talk c.serve_next.new.line) c.in_ok-serve_next.field-0 Refused c.in-Refused.is c.in_ok-serve_next.ensures.came)

pub returns-in-Refused-clause-most : goal.returns-in-Refused-clause-most
returns-in-Refused-clause-most g c =
    most_short (outside g.C.Clock.now_gives g.C.Clock.rest_gives) g.L.Line.makes g.L.Line.tells (c.args.clock.now, c.args.evaluator.now) (c.loop-served.clock, c.loop-served.evaluator) (c.serve_next.new.clock, c.serve_next.new.evaluator) c.args.remote.now c.loop-served.remote c.serve_next.new.remote c.args.line.now c.loop-served.line c.serve_next.new.line (g.L.Line.talk c.args.line.now) (g.L.Line.talk c.loop-served.line) (g.L.Line.talk c.serve_next.new.line) c.loop-served.served c.args.connections c.loop-served.invariant.turned c.loop-served-test.true
    (came_as (outside g.C.Clock.now_gives g.C.Clock.rest_gives) (c.loop-served.clock, c.loop-served.evaluator) (c.serve_next.new.clock, c.serve_next.new.evaluator) c.loop-served.remote c.serve_next.new.remote g.L.Line.makes c.loop-served.line c.serve_next.new.line g.L.Line.tells (g.L.Line.talk c.loop-served.line) (g.L.Line.talk c.serve_next.new.line) c.in_ok-serve_next.field-0 Refused c.in-Refused.is c.in_ok-serve_next.ensures.came).asks

pub returns-clause-attended : goal.returns-clause-attended
returns-clause-attended g c = attended_all (outside g.C.Clock.now_gives g.C.Clock.rest_gives) g.L.Line.makes g.L.Line.tells (c.args.clock.now, c.args.evaluator.now) (c.loop-served.clock, c.loop-served.evaluator) (c.loop-served.clock, c.loop-served.evaluator) c.args.remote.now c.loop-served.remote c.loop-served.remote c.args.line.now c.loop-served.line c.loop-served.line (g.L.Line.talk c.args.line.now) (g.L.Line.talk c.loop-served.line) (g.L.Line.talk c.loop-served.line) c.loop-served.served c.args.connections c.loop-served.invariant.turned (let few = c.loop-served.invariant.few in let all = c.loop-served-test.false in omega (arith, few, all))

pub returns-clause-most : goal.returns-clause-most
returns-clause-most g c = most_all (outside g.C.Clock.now_gives g.C.Clock.rest_gives) g.L.Line.makes g.L.Line.tells (c.args.clock.now, c.args.evaluator.now) (c.loop-served.clock, c.loop-served.evaluator) (c.loop-served.clock, c.loop-served.evaluator) c.args.remote.now c.loop-served.remote c.loop-served.remote c.args.line.now c.loop-served.line c.loop-served.line (g.L.Line.talk c.args.line.now) (g.L.Line.talk c.loop-served.line) (g.L.Line.talk c.loop-served.line) c.loop-served.served c.args.connections c.loop-served.invariant.turned c.loop-served.invariant.few

pub returns-clause-left : goal.returns-clause-left
returns-clause-left g c = λ h. left_all (outside g.C.Clock.now_gives g.C.Clock.rest_gives) g.L.Line.makes g.L.Line.tells (c.args.clock.now, c.args.evaluator.now) (c.loop-served.clock, c.loop-served.evaluator) (c.loop-served.clock, c.loop-served.evaluator) c.args.remote.now c.loop-served.remote c.loop-served.remote c.args.line.now c.loop-served.line c.loop-served.line (g.L.Line.talk c.args.line.now) (g.L.Line.talk c.loop-served.line) (g.L.Line.talk c.loop-served.line) c.loop-served.served c.args.connections c.loop-served.invariant.turned (let few = c.loop-served.invariant.few in let all = c.loop-served-test.false in omega (arith, few, all)) h
