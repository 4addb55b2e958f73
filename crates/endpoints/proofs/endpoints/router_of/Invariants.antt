use Rattle.std.proofs.Common.{◌≡◌, take, []}
use Rattle.std.specs.List.{fold}
use Rattle.endpoints.specs.Routes.{with_command}
use Rattle.endpoints.proofs.endpoints.router_of.Given as goal

-- the rows of the commands so far
abbrev pub invariant-loop-command : goal.invariant-loop-command
invariant-loop-command l = l.router ≡ fold (with_command l.fn.method) [] (take l.command-index l.command-items)
