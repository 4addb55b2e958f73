-- The sibling elements of an element and what is above it, within the element's own tree, of which a shadow root is the top.
use Rattle.std.specs.Prelude.{ℕ, List, [], ◌∷◌, Option, Some, None, ◌==◌, filter, drop, if◌then◌else◌}
use Rattle.page_tree.specs.Places.{up_of, kids_of, own_ups, lineage}
use Rattle.page_tree.specs.Rows.{Rows, is_element}

-- the parent within the tree; a shadow root has none
abbrev pub own_parent : Rows → ℕ → Option ℕ
own_parent rows n = up_of (own_ups rows.ups rows.shadows) n

-- the parent, its parent and so on, within the tree
abbrev pub own_above : Rows → ℕ → List ℕ
own_above rows n = drop 1 (lineage (own_ups rows.ups rows.shadows) n)

-- the parent, its parent and so on, through hosts
abbrev pub above : Rows → ℕ → List ℕ
above rows n = drop 1 (lineage rows.ups n)

-- the items before n, and those after it
abbrev pub before : ℕ → List ℕ → List ℕ
before n [] = []
before n (k ∷ ks) = if k == n then [] else k ∷ before n ks

abbrev pub after : ℕ → List ℕ → List ℕ
after n [] = []
after n (k ∷ ks) = if k == n then ks else after n ks

abbrev pub kids_under : Rows → Option ℕ → List ℕ
kids_under rows None = []
kids_under rows (Some p) = kids_of rows.kids p

-- the sibling elements before an element in order; a top of a tree has none
abbrev pub earlier : Rows → ℕ → List ℕ
earlier rows n = filter (is_element rows) (before n (kids_under rows (own_parent rows n)))

-- the sibling elements after an element in order
abbrev pub later : Rows → ℕ → List ℕ
later rows n = filter (is_element rows) (after n (kids_under rows (own_parent rows n)))
