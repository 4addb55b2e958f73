use Rattle.std.proofs.Common.{ap, ◌∙◌}
use Rattle.std.specs.Option.{unwrap_or}
use Rattle.page_tree.specs.Inside.{rows_of}
use Rattle.page_tree.specs.Display.{select_of, is_displayed}
use Rattle.page_tree.proofs.Displays.{seen_anyhow}
use Rattle.page_tree.proofs.document.Document.displayed.Goals as goal

pub returns : goal.returns
returns c =
    let rows = rows_of c.self.inside.nodes.items in
    c.is_displayed.ensures ∙ ap (λ ns. is_displayed (rows_of ns) c.args.node) c.deref.ensures.value
    ∙ seen_anyhow 200 rows c.self.inside.focus c.self.inside.scroll (unwrap_or (select_of rows c.args.node) c.args.node)
    ∙ ap (λ s. is_displayed s.rows c.args.node) c.self.view_is
