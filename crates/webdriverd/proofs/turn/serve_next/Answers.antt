use Rattle.remote_end.specs.Outside.{outside}
use Rattle.webdriverd.proofs.AttendLemmas.{comes_as}
use Rattle.webdriverd.proofs.TurnLemmas.{turned_one, visited}
use Rattle.webdriverd.proofs.turn.serve_next.Goals as goal

pub returns-in-Ok-clause-came : goal.returns-in-Ok-clause-came
returns-in-Ok-clause-came g c =
    turned_one (outside g.C.Clock.now_gives g.C.Clock.rest_gives) g.L.Line.makes g.L.Line.tells c.args.line.now c.next.new.self c.serve-served.new.line c.hang_up.new.self
    (g.L.Line.talk c.args.line.now) (g.L.Line.talk c.next.new.self) (g.L.Line.talk c.serve-served.new.line) (g.L.Line.talk c.hang_up.new.self)
    (c.args.clock.now, c.args.evaluator.now) (c.serve-served.new.clock, c.serve-served.new.evaluator) c.args.remote.now c.serve-served.new.remote c.next.ensures.made c.hang_up.ensures.made
    (λ h. comes_as (g.L.Line.talk c.args.line.now) (g.L.Line.talk c.next.new.self) c.in-Ok-true.field-0 c.in-Ok-true.field-0-test (c.in-Ok-true.ensures.told h))
    (λ h. c.in-Ok.ensures.stands h) (λ h. c.hang_up.ensures.told h) c.in-Ok.ensures.served

pub returns-in-Err-served-clause-visits : goal.returns-in-Err-served-clause-visits
returns-in-Err-served-clause-visits g c = visited g.L.Line.makes c.args.line.now c.next.new.self c.serve-served.new.line c.hang_up.new.self c.next.ensures.made c.serve-served.ensures.within c.hang_up.ensures.made
