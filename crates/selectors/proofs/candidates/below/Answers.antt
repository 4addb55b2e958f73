use Rattle.std.proofs.Common.{◌≡◌, ℕ, List, take, drop, sym, ap, subst, ◌∙◌, arith}
use Rattle.std.specs.List.{flat_map}
use Rattle.std.proofs.lemmas.List.{take_all}
use Rattle.page_tree.specs.Places.{walk, kids_of, contains, AreInOrder}
use Rattle.page_tree.specs.Rows.{paths_of}
use Rattle.page_tree.proofs.Orders.{walk-suc}
use Rattle.selectors.proofs.Descendants.{below_by_paths, below_has}
use Rattle.selectors.proofs.candidates.below.Goals as goal

pub returns-clause-list : goal.returns-clause-list
returns-clause-list c =
    let kids = c.args.document.now.rows.kids in
    let all : take c.loop-kid.kid-index c.as_slice-kid-items.result.now ≡ kids_of kids c.args.node = take_all c.loop-kid.kid-index c.as_slice-kid-items.result.now (omega arith) ∙ c.as_slice-kid-items.ensures ∙ c.in_ok-kids.ensures.list in
    c.loop-kid.invariant.same ∙ ap (flat_map (walk 199 kids)) all ∙ ap (λ xs. drop 1 xs) (sym (walk-suc 200 kids c.args.node (omega arith)))

pub returns-clause-by_paths : goal.returns-clause-by_paths
returns-clause-by_paths c = let rows = c.args.document.now.rows in subst (λ (list : List ℕ). AreInOrder (paths_of rows list)) (sym (returns-clause-list c)) (below_by_paths rows c.law.ensures c.args.node)

pub returns-clause-nodes : goal.returns-clause-nodes
returns-clause-nodes c n = let rows = c.args.document.now.rows in ap (contains n) (returns-clause-list c) ∙ below_has rows c.law.ensures c.args.node n
