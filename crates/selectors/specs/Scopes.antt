-- Which nodes a scope has, and which of those that are looked for is the first.
use Rattle.std.specs.Prelude.{◌≡◌, ℕ, ◌<◌, Bool, true, false, Option, Some, None, ◌⊎◌}
use Rattle.page_tree.specs.Places.{contains, comes_before}
use Rattle.page_tree.specs.Rows.{Rows, count, path, is_in_document_tree}
use Rattle.selectors.specs.Siblings.{own_above}
use Rattle.selectors.specs.declared.selector.Scope.{Scope}
use Rattle.selectors.specs.declared.selector.Scope.TheVariants.{Document, Under}

-- the node of a scope is one of the document
abbrev pub IsWithin : Rows → Scope → Type 0
IsWithin rows Document = Unit {0}
IsWithin rows (Under n) = n < count rows

-- a node of the document tree, or one that has the scope's node above it in its own tree
abbrev pub is_in : Rows → Scope → ℕ → Bool
is_in rows Document n = is_in_document_tree rows n
is_in rows (Under top) n = contains top (own_above rows n)

-- the node that is looked for and comes before all others that are; none exactly where no node is looked for
abbrev pub IsFirst : Rows → (ℕ → Bool) → Option ℕ → Type 0
IsFirst rows looked_for None = (n : ℕ) → looked_for n ≡ false
IsFirst rows looked_for (Some first) = (looked_for first ≡ true) × ((n : ℕ) → looked_for n ≡ true → (n ≡ first) ⊎ comes_before (path rows first) (path rows n))
