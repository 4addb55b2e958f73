use Rattle.std.proofs.Common.{◌≡◌, ◌<◌, rules, sym, ap, ◌∙◌, subst}
use Rattle.std.specs.List.{All}
use Rattle.page_tree.specs.Places.{contains, AreInOrder}
use Rattle.page_tree.specs.Rows.{IsTree, count, document_order, paths_of}
use Rattle.page_tree.proofs.RowLemmas.{order_in, order_by_paths, order_has}
use Rattle.page_tree.proofs.document.Document.in_order.Goals as goal

found : (c : goal.After-from_vec) → c.from_vec.result ≡ document_order c.args.self.now.rows
found c = search rules

tree : (c : goal.After-from_vec) → IsTree c.args.self.now.rows
tree c = subst IsTree (ap (λ s. s.rows) c.self.view_is) c.self.invariant

pub returns-clause-by_paths : goal.returns-clause-by_paths
returns-clause-by_paths c = subst (λ list. AreInOrder (paths_of c.args.self.now.rows list)) (sym (found c)) (order_by_paths c.args.self.now.rows (tree c))

pub returns-clause-tree : goal.returns-clause-tree
returns-clause-tree c n = ap (contains n) (found c) ∙ order_has c.args.self.now.rows (tree c) n

pub returns-clause-within : goal.returns-clause-within
returns-clause-within c = subst (All (λ n. n < count c.args.self.now.rows)) (sym (found c)) (order_in c.args.self.now.rows (tree c))
