-- The nodes that a selector names, built from left to right, and the match of one node, from right to left.
use Rattle.std.specs.Prelude.{ℕ, ◌-◌, Bool, ◌&&◌, slice_get, List, [], ◌∷◌, Option, Some, None, length, drop, filter}
use Rattle.std.specs.List.{list_any, range_with_len}
use Rattle.page_tree.specs.Places.{contains, only, walk, max_depth}
use Rattle.page_tree.specs.Rows.{Rows, document_order}
use Rattle.selectors.specs.Siblings.{own_parent, own_above, earlier}
use Rattle.selectors.specs.Scopes.{is_in}
use Rattle.selectors.specs.Meets.{meets_all}
use Rattle.selectors.specs.declared.selector.Simple.{Simple}
use Rattle.selectors.specs.declared.selector.Combinator.{Combinator}
use Rattle.selectors.specs.declared.selector.Combinator.TheVariants.{Descendant, Child, Next, Later}
use Rattle.selectors.specs.declared.selector.Complex.{Complex}
use Rattle.selectors.specs.declared.selector.Scope.{Scope}
use Rattle.selectors.specs.declared.selector.Scope.TheVariants.{Document, Under}

-- a combinator and the compound on its right
abbrev pub Join : Type 0
Join = Combinator × List Simple

-- the nodes picked by a condition
abbrev pub nodes_where : Rows → (ℕ → Bool) → List ℕ
nodes_where rows test = filter test (range_with_len 0 (length rows.contents))

abbrev pub last_of : List ℕ → Option ℕ
last_of nodes = slice_get nodes (length nodes - 1)

-- where the node on a combinator's left may stand, seen from the one on its right
abbrev pub left_of : Combinator → Rows → ℕ → List ℕ
left_of Child rows n = only (own_parent rows n)
left_of Descendant rows n = own_above rows n
left_of Next rows n = only (last_of (earlier rows n))
left_of Later rows n = earlier rows n

abbrev pub compound_nodes : Rows → List Simple → List ℕ
compound_nodes rows simples = nodes_where rows (meets_all rows simples)

-- of the nodes of the compound, those with one of these nodes on their left
abbrev pub joined : Rows → List ℕ → Join → List ℕ
joined rows nodes join = filter (λ n. list_any (λ a. contains a nodes) (left_of join.0 rows n)) (compound_nodes rows join.1)

abbrev pub all_joined : Rows → List ℕ → List Join → List ℕ
all_joined rows nodes [] = nodes
all_joined rows nodes (join ∷ joins) = all_joined rows (joined rows nodes join) joins

abbrev pub complex_nodes : Rows → Complex → List ℕ
complex_nodes rows complex = all_joined rows (compound_nodes rows complex.first) complex.rest

-- the union over the list
abbrev pub is_named : Rows → List Complex → ℕ → Bool
is_named rows selector n = list_any (λ complex. contains n (complex_nodes rows complex)) selector

-- the document tree, or what is below a node in its own tree, in document order
abbrev pub in_scope : Rows → Scope → List ℕ
in_scope rows Document = document_order rows
in_scope rows (Under n) = drop 1 (walk max_depth rows.kids n)

-- the named nodes of the scope, in document order
abbrev pub selected : Rows → Scope → List Complex → List ℕ
selected rows scope selector = filter (is_named rows selector) (in_scope rows scope)

-- a node of the scope that the selector names
abbrev pub is_selected : Rows → Scope → List Complex → ℕ → Bool
is_selected rows scope selector n = is_in rows scope n && is_named rows selector n

abbrev pub first_of_list : List ℕ → Option ℕ
first_of_list [] = None
first_of_list (n ∷ ns) = Some n

-- ---- one node from right to left: the joins are given last first

abbrev pub matches_from : (ℕ → Bool) → Rows → List Join → ℕ → Bool
matches_from base rows [] n = base n
matches_from base rows (join ∷ joins) n = meets_all rows join.1 n && list_any (matches_from base rows joins) (left_of join.0 rows n)
