use Rattle.std.proofs.Common.{◌≡◌, List, ℕ, sym, ap, subst, ◌∙◌, arith}
use Rattle.std.specs.Prelude.{filter, ◌&&◌}
use Rattle.page_tree.specs.Places.{AreInOrder, contains}
use Rattle.page_tree.specs.Rows.{paths_of}
use Rattle.selectors.specs.Named.{is_named}
use Rattle.selectors.proofs.Lists.{kept_whole}
use Rattle.selectors.proofs.Orders.{kept_in_order}
use Rattle.selectors.proofs.RightToLeft.{contains-filter}
use Rattle.selectors.proofs.selecting.select.Goals as goal

pub returns-clause-by_paths : goal.returns-clause-by_paths
returns-clause-by_paths c =
    let rows = c.args.document.now.rows in
    let named = is_named rows c.args.selector.now in
    let items = c.as_slice-node-items.result.now in
    let found : filter named items ≡ c.loop-node.found = kept_whole named items c.loop-node.found c.loop-node.node-index (omega arith) c.loop-node.invariant.same in
    kept_in_order rows named items c.loop-node.found found (subst (λ (list : List ℕ). AreInOrder (paths_of rows list)) (sym c.as_slice-node-items.ensures) c.in_ok-nodes.ensures.by_paths)

pub returns-clause-nodes : goal.returns-clause-nodes
returns-clause-nodes c n =
    let rows = c.args.document.now.rows in
    let named = is_named rows c.args.selector.now in
    let items = c.as_slice-node-items.result.now in
    let found : filter named items ≡ c.loop-node.found = kept_whole named items c.loop-node.found c.loop-node.node-index (omega arith) c.loop-node.invariant.same in
    ap (contains n) (sym found) ∙ contains-filter named n items ∙ ap (λ b. b && named n) (ap (contains n) c.as_slice-node-items.ensures ∙ c.in_ok-nodes.ensures.nodes n)
