use Rattle.std.proofs.Common.{◌≡◌, ◌<◌, ◌++◌, drop}
use Rattle.std.specs.Prelude.{filter}
use Rattle.std.specs.List.{All}
use Rattle.page_tree.specs.Rows.{count}
use Rattle.selectors.specs.Named.{is_named}
use Rattle.selectors.proofs.selecting.select.Given as goal

abbrev pub invariant-loop-node : goal.invariant-loop-node
invariant-loop-node l = record {
  found_in : All (λ n. n < count l.document.rows) l.found;
  same : filter (is_named l.document.rows l.selector) l.node-items ≡ l.found ++ filter (is_named l.document.rows l.selector) (drop l.node-index l.node-items);
}
