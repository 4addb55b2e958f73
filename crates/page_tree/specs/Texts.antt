-- The texts below a node.
use Rattle.std.specs.Prelude.{ℕ, List, [], Option, Some, None}
use Rattle.std.specs.List.{flat_map}
use Rattle.page_tree.specs.Places.{walk, max_depth}
use Rattle.page_tree.specs.Rows.{Rows, text_of}

abbrev pub or_nothing : Option (List ℕ) → List ℕ
or_nothing None = []
or_nothing (Some text) = text

-- the texts among some nodes, joined
abbrev pub texts_of : Rows → List ℕ → List ℕ
texts_of rows nodes = flat_map (λ n. or_nothing (text_of rows n)) nodes

-- all texts that children reach from a node, joined in document order
abbrev pub texts_below : Rows → ℕ → List ℕ
texts_below rows n = texts_of rows (walk max_depth rows.kids n)
