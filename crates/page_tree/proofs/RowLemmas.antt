-- What holds of the rows of every document.
use Rattle.std.specs.Prelude.{IfSome}
use Rattle.std.proofs.Common.{◌≡◌, ℕ, ◌<◌, Option, Some, None, length, sym, ◌∙◌, arith, inl, inr}
use Rattle.std.specs.List.{All}
use Rattle.std.proofs.lemmas.Bool.{cases_lt}
use Rattle.std.proofs.lemmas.List.{get_or_past}
use Rattle.page_tree.specs.Places.{up_of, kids_of, shadow_of, only, own_ups, below, contains, walk, max_depth, lineage, AreInOrder}
use Rattle.page_tree.specs.Rows.{Rows, IsTree, count, document_order, paths_of, is_in_document_tree}
use Rattle.page_tree.proofs.Paths.{kids_within, document_within, subtree_in_order}
use Rattle.page_tree.proofs.Reach.{subtree_nodes}
use Rattle.page_tree.proofs.Shadows.{kids_of-below, each_below, each_own, shallow_own}
use Rattle.page_tree.proofs.Trees.{up_parent_within}

module _ (rows : Rows) (tree : IsTree rows) where
  shadows_as_kids : length rows.shadows ≡ length rows.kids
  shadows_as_kids = omega (arith, tree.shadow_of_each, tree.kids_of_each)

  pub kids_in : (n : ℕ) → All (λ kid. kid < count rows) (kids_of rows.kids n)
  kids_in = kids_within rows.ups (below rows.shadows rows.kids) rows.kids (λ n. only (shadow_of rows.shadows n)) (kids_of-below rows.shadows rows.kids shadows_as_kids)
      (each_below rows.ups rows.shadows rows.kids shadows_as_kids tree.each tree.host) tree.shallow

  pub order_in : All (λ n. n < count rows) (document_order rows)
  order_in = document_within rows.ups (below rows.shadows rows.kids) rows.kids (λ n. only (shadow_of rows.shadows n)) (kids_of-below rows.shadows rows.kids shadows_as_kids)
      (each_below rows.ups rows.shadows rows.kids shadows_as_kids tree.each tree.host) tree.shallow tree.some

  -- a node and what is below it in its own tree are in the order of paths
  pub subtree_by_paths : (n : ℕ) → AreInOrder (paths_of rows (walk max_depth rows.kids n))
  subtree_by_paths = subtree_in_order rows.ups (below rows.shadows rows.kids) rows.kids (λ n. only (shadow_of rows.shadows n)) (kids_of-below rows.shadows rows.kids shadows_as_kids)
      (each_below rows.ups rows.shadows rows.kids shadows_as_kids tree.each tree.host) tree.shallow

  -- and are exactly the nodes that reach it within one tree
  pub subtree_has : (top n : ℕ) → contains n (walk max_depth rows.kids top) ≡ contains top (lineage (own_ups rows.ups rows.shadows) n)
  subtree_has = subtree_nodes (own_ups rows.ups rows.shadows) rows.kids (each_own rows.ups rows.shadows rows.kids tree.each) (shallow_own rows.ups rows.shadows tree.shallow)

  pub order_by_paths : AreInOrder (paths_of rows (document_order rows))
  order_by_paths = subtree_by_paths 0

  pub order_has : (n : ℕ) → contains n (document_order rows) ≡ is_in_document_tree rows n
  order_has = subtree_has 0

  pub parent_in : (n : ℕ) (o : Option ℕ) → o ≡ up_of rows.ups n → IfSome o (λ up. up < count rows)
  parent_in n None is = tt
  parent_in n (Some q) is = up_parent_within rows n q tree (sym is)

  pub shadow_in : (n : ℕ) (o : Option ℕ) → o ≡ shadow_of rows.shadows n → IfSome o (λ root. root < count rows)
  shadow_in n None is = tt
  shadow_in n (Some m) is = elim (cases_lt m (count rows)) [
    | inl within ↦ within
    | inr past ↦ absurd (let e : None ≡ Some n = sym (get_or_past rows.ups m None past) ∙ tree.host n m (sym is) in cc)
  ]
