use Rattle.std.proofs.Common.{ℕ, List, Option, [], sym, ap, subst, ◌∙◌, arith}
use Rattle.page_tree.specs.Places.{AreInOrder, contains}
use Rattle.page_tree.specs.Rows.{paths_of}
use Rattle.selectors.specs.Named.{is_named, is_selected, first_of_list}
use Rattle.selectors.specs.Scopes.{is_in, IsFirst}
use Rattle.selectors.proofs.Lists.{kept_next, kept_end}
use Rattle.selectors.proofs.Orders.{first_picked}
use Rattle.selectors.proofs.selecting.first.Goals as goal

pub returns-then-branch-clause-earliest : goal.returns-then-branch-clause-earliest
returns-then-branch-clause-earliest c =
    let rows = c.args.document.now.rows in
    let named = is_named rows c.args.selector.now in
    let items = c.as_slice-node-items.result.now in
    let here = kept_next named items [] c.loop-node.node-index c.node-item.result c.loop-node-test.true c.node-item.is (sym c.in_ok-is_named.ensures ∙ c.if-branch.true) in
    let order = subst (λ (list : List ℕ). AreInOrder (paths_of rows list)) (sym c.as_slice-node-items.ensures) c.in_ok-nodes.ensures.by_paths in
    subst (λ (found : Option ℕ). IsFirst rows (is_selected rows c.args.scope c.args.selector.now) found) (ap first_of_list (c.loop-node.invariant ∙ here))
    (first_picked rows named (is_in rows c.args.scope) items order (λ n. ap (contains n) c.as_slice-node-items.ensures ∙ c.in_ok-nodes.ensures.nodes n))

pub returns-clause-earliest : goal.returns-clause-earliest
returns-clause-earliest c =
    let rows = c.args.document.now.rows in
    let named = is_named rows c.args.selector.now in
    let items = c.as_slice-node-items.result.now in
    let order = subst (λ (list : List ℕ). AreInOrder (paths_of rows list)) (sym c.as_slice-node-items.ensures) c.in_ok-nodes.ensures.by_paths in
    subst (λ (found : Option ℕ). IsFirst rows (is_selected rows c.args.scope c.args.selector.now) found) (ap first_of_list (c.loop-node.invariant ∙ kept_end named items c.loop-node.node-index (omega arith)))
    (first_picked rows named (is_in rows c.args.scope) items order (λ n. ap (contains n) c.as_slice-node-items.ensures ∙ c.in_ok-nodes.ensures.nodes n))
