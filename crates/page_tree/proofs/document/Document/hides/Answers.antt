use Rattle.std.proofs.Common.{ap, ◌∙◌}
use Rattle.page_tree.specs.Inside.{rows_of}
use Rattle.page_tree.specs.Display.{hides}
use Rattle.page_tree.proofs.document.Document.hides.Goals as goal

pub returns : goal.returns
returns c = c.hides.ensures ∙ ap (λ ns. hides (rows_of ns) c.args.node) c.deref.ensures.value ∙ ap (λ s. hides s.rows c.args.node) c.self.view_is
