use Rattle.std.proofs.Common.{◌-◌, ◌≡◌, ◌≤◌}
use Rattle.remote_end.specs.Outside.{outside}
use Rattle.remote_end.specs.Standing.{IsReady}
use Rattle.webdriverd.specs.Attended.{Turned}
use Rattle.webdriverd.proofs.attend.attend.Given as goal

-- so many were served
abbrev pub invariant-loop-served : goal.invariant-loop-served
invariant-loop-served g l = record {
  few : l.served ≤ l.connections;
  turned : Turned (outside g.C.Clock.now_gives g.C.Clock.rest_gives) (l.fn.clock, l.fn.evaluator) (l.clock, l.evaluator) l.fn.remote l.remote
      g.L.Line.makes l.fn.line l.line g.L.Line.tells (g.L.Line.talk l.fn.line) (g.L.Line.talk l.line) l.served;
  ready : IsReady l.remote;
  refusals : g.L.Line.refusals l.line ≡ g.L.Line.refusals l.fn.line;
}

abbrev pub decreases-loop-served : goal.decreases-loop-served
decreases-loop-served g l = l.connections - l.served
