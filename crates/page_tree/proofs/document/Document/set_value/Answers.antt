use Rattle.std.proofs.Common.{◌∙◌, refl, ap}
use Rattle.page_tree.specs.Rows.{with_value}
use Rattle.page_tree.proofs.Writes.{content_written, written_is_tree, with_rows}
use Rattle.page_tree.proofs.document.Document.set_value.Goals as goal

pub invariant_of-self-2 : goal.invariant_of-self-2
invariant_of-self-2 c = written_is_tree (λ content. record content { value = c.in-Ok.text }) c.self.inside c.args.self.now c.self.view_is c.index.result c.args.node c.index_mut.result.now c.index.ensures.same c.requires.node_in c.index_mut.ensures.value (λ content. refl) (λ content. refl) c.self.invariant

pub returns-clause-ok : goal.returns-clause-ok
returns-clause-ok c =
    let now = c.args.self.now in
    content_written (λ content. record content { value = c.in-Ok.text }) c.self.inside c.args.self.now c.self.view_is c.index.result c.args.node c.index_mut.result.now c.index.ensures.same c.requires.node_in c.index_mut.ensures.value
    ∙ ap (λ text. with_rows now (with_value now.rows c.args.node text)) c.in-Ok.ensures.characters
