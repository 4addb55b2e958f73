use Rattle.std.proofs.Common.{sym, ◌∙◌}
use Rattle.page_tree.specs.Inside.{rows_of}
use Rattle.page_tree.proofs.Displays.{unseen}
use Rattle.page_tree.proofs.displayed.is_seen.Goals as goal

pub returns-then-not-is_shown : goal.returns-then-not-is_shown
returns-then-not-is_shown c = sym (unseen 200 (rows_of c.args.nodes.now) c.args.node (sym c.is_shown.ensures ∙ c.if-not-is_shown.true))
