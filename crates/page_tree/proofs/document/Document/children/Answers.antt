use Rattle.std.proofs.Common.{◌≡◌, ◌<◌, rules, sym, ap, subst}
use Rattle.std.specs.List.{All}
use Rattle.page_tree.specs.Places.{kids_of}
use Rattle.page_tree.specs.Rows.{IsTree, count}
use Rattle.page_tree.proofs.RowLemmas.{kids_in}
use Rattle.page_tree.proofs.document.Document.children.Goals as goal

pub returns-clause-within : goal.returns-clause-within
returns-clause-within c =
    let rows = c.args.self.now.rows in
    let tree : IsTree rows = subst IsTree (ap (λ s. s.rows) c.self.view_is) c.self.invariant in
    let found : c.from_vec.result ≡ kids_of rows.kids c.args.node = search rules in
    subst (All (λ kid. kid < count rows)) (sym found) (kids_in rows tree c.args.node)
