use Rattle.std.proofs.Common.{◌≡◌, rules, ap, subst}
use Rattle.page_tree.specs.Places.{shadow_of}
use Rattle.page_tree.specs.Rows.{IsTree}
use Rattle.page_tree.proofs.RowLemmas.{shadow_in}
use Rattle.page_tree.proofs.document.Document.shadow_of.Goals as goal

pub returns-clause-within : goal.returns-clause-within
returns-clause-within c =
    let rows = c.args.self.now.rows in
    let tree : IsTree rows = subst IsTree (ap (λ s. s.rows) c.self.view_is) c.self.invariant in
    let found : c.shadow.result ≡ shadow_of rows.shadows c.args.node = search rules in
    shadow_in rows tree c.args.node c.shadow.result found
