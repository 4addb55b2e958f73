use Rattle.std.proofs.Common.{None, sym, ap, ◌∙◌, subst}
use Rattle.page_tree.specs.Rows.{IsTree, is_shadow, origin}
use Rattle.page_tree.specs.Inside.{rows_of, seen}
use Rattle.page_tree.proofs.Trees.{detached_is_tree, seen_is_tree}
use Rattle.page_tree.proofs.document.Document.remove.Goals as goal

pub detach-requires-clause-tree : goal.detach-requires-clause-tree
detach-requires-clause-tree c = seen_is_tree _ None origin tt c.self.invariant

pub invariant_of-self : goal.invariant_of-self
invariant_of-self c =
    subst IsTree (sym (ap (λ r. seen r c.self.inside.focus c.self.inside.scroll) c.detach.ensures))
    (detached_is_tree (seen (rows_of c.self.inside.nodes.items) c.self.inside.focus c.self.inside.scroll) c.args.node c.self.invariant c.requires.not_root (ap (λ s. is_shadow s.rows c.args.node) c.self.view_is ∙ c.requires.not_shadow))
