use Rattle.std.proofs.Common.{◌≡◌, List, ℕ, chars, sym, ap, subst, ◌∙◌, arith}
use Rattle.std.specs.Prelude.{filter, ◌&&◌}
use Rattle.page_tree.specs.Places.{AreInOrder, contains}
use Rattle.page_tree.specs.Rows.{paths_of}
use Rattle.selectors.proofs.Lists.{kept_whole}
use Rattle.selectors.proofs.Orders.{kept_in_order}
use Rattle.selectors.proofs.RightToLeft.{contains-filter}
use Rattle.selectors.specs.Scopes.{is_in}
use Rattle.interaction.specs.Found.{is_named}
use Rattle.interaction.proofs.FoundLemmas.{is_both}
use Rattle.interaction.proofs.finding.by_words.Goals as goal

pub returns-clause-by_paths : goal.returns-clause-by_paths
returns-clause-by_paths c =
    let rows = c.args.document.now.rows in
    let fits = is_named rows c.args.words (chars c.args.text.now) in
    let items = c.as_slice-node-items.result.now in
    let found : filter fits items ≡ c.loop-node.found = kept_whole fits items c.loop-node.found c.loop-node.node-index (omega arith) c.loop-node.invariant.same in
    kept_in_order rows fits items c.loop-node.found found (subst (λ (list : List ℕ). AreInOrder (paths_of rows list)) (sym c.as_slice-node-items.ensures) c.in_ok-nodes.ensures.by_paths)

pub returns-clause-exactly : goal.returns-clause-exactly
returns-clause-exactly c n =
    let rows = c.args.document.now.rows in
    let fits = is_named rows c.args.words (chars c.args.text.now) in
    let items = c.as_slice-node-items.result.now in
    let found : filter fits items ≡ c.loop-node.found = kept_whole fits items c.loop-node.found c.loop-node.node-index (omega arith) c.loop-node.invariant.same in
    is_both (contains n c.loop-node.found) (is_in rows c.args.scope n) (fits n) (ap (contains n) (sym found) ∙ contains-filter fits n items ∙ ap (λ b. b && fits n) (ap (contains n) c.as_slice-node-items.ensures ∙ c.in_ok-nodes.ensures.nodes n))
