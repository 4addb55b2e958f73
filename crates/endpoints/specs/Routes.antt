-- How the routers keep the table: one for each method.
use Rattle.std.specs.Prelude.{ℕ, List, [], Result, Ok, Err, cond, Bool, ◌||◌, codes}
use Rattle.std.specs.List.{fold}
use Rattle.matchit.specs.Rows.{RowsOf}
use Rattle.matchit.specs.Order.{placed}
use Rattle.matchit.specs.Route.{Scan, scan_start, parse_route}
use Rattle.matchit.specs.Router.{RouteOf, route_from}
use Rattle.matchit.specs.declared.error.InsertError.{InsertError}
use Rattle.endpoints.specs.declared.command.Command.{Command}
use Rattle.endpoints.specs.declared.table.TheConstants.{COMMANDS}
use Rattle.endpoints.specs.Table.{row_of}
use Rattle.endpoints.specs.Path.{same_text}

abbrev pub scan_in : Result Scan InsertError → Scan
scan_in (Ok s) = s
scan_in (Err e) = scan_start

-- how a router reads the command's path
unfoldable pub scan_of : Command → Scan
scan_of c = scan_in (parse_route (row_of c).path)

abbrev pub entry : Command → List ℕ × RouteOf Command
entry c = ((scan_of c).pattern, route_from (scan_of c) c)

-- the rows with the command's, where it has this method
unfoldable pub with_command : List ℕ → RowsOf (RouteOf Command) → Command → RowsOf (RouteOf Command)
with_command method rows c = cond (same_text (row_of c).method method) (placed (entry c) rows) rows

-- the rows of the commands with this method
unfoldable pub table_rows : List ℕ → RowsOf (RouteOf Command)
table_rows method = fold (with_command method) [] COMMANDS

-- the table has commands with this method
abbrev pub is_known : List ℕ → Bool
is_known method = same_text method (codes "GET") || (same_text method (codes "POST") || same_text method (codes "DELETE"))
