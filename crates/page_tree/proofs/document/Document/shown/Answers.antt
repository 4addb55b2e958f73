use Rattle.std.proofs.Common.{ap, ◌∙◌}
use Rattle.page_tree.specs.Inside.{rows_of}
use Rattle.page_tree.specs.Display.{is_shown}
use Rattle.page_tree.proofs.document.Document.shown.Goals as goal

pub returns : goal.returns
returns c = c.is_shown.ensures ∙ ap (λ ns. is_shown (rows_of ns) c.args.node) c.deref.ensures.value ∙ ap (λ s. is_shown s.rows c.args.node) c.self.view_is
