use Rattle.std.proofs.Common.{◌≡◌, ◌<◌, ◌++◌, drop, chars}
use Rattle.std.specs.Prelude.{filter}
use Rattle.std.specs.List.{All}
use Rattle.page_tree.specs.Rows.{count}
use Rattle.interaction.specs.Found.{is_named}
use Rattle.interaction.proofs.finding.by_words.Given as goal

abbrev pub invariant-loop-node : goal.invariant-loop-node
invariant-loop-node l = record {
  found_in : All (λ n. n < count l.document.rows) l.found;
  same : filter (is_named l.document.rows l.words (chars l.text)) l.node-items ≡ l.found ++ filter (is_named l.document.rows l.words (chars l.text)) (drop l.node-index l.node-items);
}
