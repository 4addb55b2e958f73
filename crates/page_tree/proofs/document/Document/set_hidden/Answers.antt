use Rattle.std.proofs.Common.{refl}
use Rattle.page_tree.proofs.Writes.{content_written, written_is_tree}
use Rattle.page_tree.proofs.document.Document.set_hidden.Goals as goal

pub invariant_of-self : goal.invariant_of-self
invariant_of-self c = written_is_tree (λ content. record content { hidden = c.args.hidden }) c.self.inside c.args.self.now c.self.view_is c.index.result c.args.node c.index_mut.result.now c.index.ensures.same c.requires.node_in c.index_mut.ensures.value (λ content. refl) (λ content. refl) c.self.invariant

pub returns : goal.returns
returns c = content_written (λ content. record content { hidden = c.args.hidden }) c.self.inside c.args.self.now c.self.view_is c.index.result c.args.node c.index_mut.result.now c.index.ensures.same c.requires.node_in c.index_mut.ensures.value
