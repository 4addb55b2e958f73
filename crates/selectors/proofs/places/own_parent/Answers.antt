use Rattle.std.proofs.Common.{None, cond, sym, ap, ◌∙◌}
use Rattle.page_tree.specs.Places.{up_of}
use Rattle.selectors.proofs.Above.{own_parent_is}
use Rattle.selectors.proofs.places.own_parent.Goals as goal

pub returns-then-is_shadow-clause-row : goal.returns-then-is_shadow-clause-row
returns-then-is_shadow-clause-row c =
    let rows = c.args.document.now.rows in
    sym (own_parent_is rows c.args.node c.law.ensures ∙ ap (λ b. cond b None (up_of rows.ups c.args.node)) (sym c.is_shadow.ensures ∙ c.if-is_shadow.true))

pub returns-else-is_shadow-clause-row : goal.returns-else-is_shadow-clause-row
returns-else-is_shadow-clause-row c =
    let rows = c.args.document.now.rows in
    c.parent.ensures.row ∙ sym (own_parent_is rows c.args.node c.law.ensures ∙ ap (λ b. cond b None (up_of rows.ups c.args.node)) (sym c.is_shadow.ensures ∙ c.if-is_shadow.false))
