use Rattle.std.proofs.Common.{◌≡◌, ◌∙◌, refl, ap, arith, to_z, of_z, w32}
use Rattle.std.proofs.lemmas.Int.{ints}
use Rattle.page_tree.specs.Rows.{with_layer}
use Rattle.page_tree.proofs.Writes.{content_written, written_is_tree, with_rows}
use Rattle.page_tree.proofs.document.Document.set_layer.Goals as goal

pub invariant_of-self : goal.invariant_of-self
invariant_of-self c = written_is_tree (λ content. record content { layer = to_z w32 (of_z w32 c.args.layer) }) c.self.inside c.args.self.now c.self.view_is c.index.result c.args.node c.index_mut.result.now c.index.ensures.same c.requires.node_in c.index_mut.ensures.value (λ content. refl) (λ content. refl) c.self.invariant

pub returns : goal.returns
returns c =
    let now = c.args.self.now in
    let same : to_z w32 (of_z w32 c.args.layer) ≡ c.args.layer = omega (arith, ints) in
    content_written (λ content. record content { layer = to_z w32 (of_z w32 c.args.layer) }) c.self.inside c.args.self.now c.self.view_is c.index.result c.args.node c.index_mut.result.now c.index.ensures.same c.requires.node_in c.index_mut.ensures.value
    ∙ ap (λ layer. with_rows now (with_layer now.rows c.args.node layer)) same
