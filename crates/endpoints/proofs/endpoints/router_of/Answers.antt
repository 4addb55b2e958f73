use Rattle.std.proofs.Common.{◌≡◌, ◌+◌, ◌<◌, ◌∙◌, ℕ, List, [], length, take, get_or, ap, sym, arith}
use Rattle.std.specs.List.{fold}
use Rattle.std.proofs.lemmas.List.{take_all}
use Rattle.std.proofs.lemmas.List.Sums.{fold_more}
use Rattle.matchit.specs.Rows.{RowsOf}
use Rattle.matchit.specs.Router.{RouteOf}
use Rattle.endpoints.specs.declared.command.Command.{Command}
use Rattle.endpoints.specs.declared.table.TheConstants.{COMMANDS}
use Rattle.endpoints.specs.Routes.{with_command, table_rows}
use Rattle.endpoints.proofs.endpoints.router_of.Goals as goal

-- one more command was put in
more : (f : RowsOf (RouteOf Command) → Command → RowsOf (RouteOf Command)) (rows new : RowsOf (RouteOf Command)) (cs : List Command) (i : ℕ) (d : Command)
    → i < length cs
    → new ≡ f rows (get_or cs i d) → rows ≡ fold f [] (take i cs) → new ≡ fold f [] (take (i + 1) cs)
more f rows new cs i d l e h = e ∙ ap (λ r. f r (get_or cs i d)) h ∙ sym (fold_more f [] cs i d l)

pub loop-command-preserved : goal.loop-command-preserved
loop-command-preserved c =
    more (with_command c.args.method.now) c.loop-command.router c.put.new.router COMMANDS c.loop-command.command-index _ (omega arith) c.in_ok-put.ensures c.loop-command.invariant

pub returns : goal.returns
unfolding table_rows
returns c = c.loop-command.invariant ∙ ap (fold (with_command c.args.method.now) []) (take_all c.loop-command.command-index COMMANDS (omega arith))
