-- What the fields of a `Document` stand for.
use Rattle.std.specs.Prelude.{map, List, Option, None, ℕ}
use Rattle.page_tree.specs.Rows.{Rows, origin}
use Rattle.page_tree.specs.declared.node.Node.{Node}
use Rattle.page_tree.specs.declared.content.Content.{Content}
use Rattle.page_tree.specs.declared.geometry.Point.{Point}

abbrev pub ups_of : List Node → List (Option ℕ)
ups_of nodes = map (λ x. x.up) nodes

abbrev pub kids_lists : List Node → List (List ℕ)
kids_lists nodes = map (λ x. x.kids.items) nodes

abbrev pub shadows_of : List Node → List (Option ℕ)
shadows_of nodes = map (λ x. x.shadow) nodes

abbrev pub contents_of : List Node → List Content
contents_of nodes = map (λ x. x.content) nodes

-- the rows of nodes, where nothing has the focus and nothing is scrolled
abbrev pub rows_of : List Node → Rows
rows_of nodes = record { ups = ups_of nodes; kids = kids_lists nodes; shadows = shadows_of nodes; contents = contents_of nodes; focus = None; scroll = origin }

-- the rows of a document
abbrev pub seen : Rows → Option ℕ → Point → Rows
seen rows focus scroll = record rows { focus = focus; scroll = scroll }
