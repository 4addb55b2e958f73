-- Where the nodes of a document stand: the parent, the children and the shadow root of each node, by their numbers.
use Rattle.std.specs.Prelude.{◌≡◌, ℕ, zero, suc, ◌+◌, Bool, false, not, List, [], ◌∷◌, ◌++◌, Option, Some, None, ◌==◌, nat_le, length, take, drop, map, filter, slice_index_or, reverse, if◌then◌else◌}
use Rattle.std.specs.List.{list_any, list_all, range_with_len, flat_map, AllByRecursion}
use Rattle.std.specs.Cmp.Lexicographic.{slice_cmp}
use Rattle.std.specs.Ordering.{nat_cmp}
use Rattle.std.specs.declared.cmp.Ordering.TheVariants.{Less}

-- the parent of a node; a number that no node has has none
abbrev pub up_of : List (Option ℕ) → ℕ → Option ℕ
up_of ups n = slice_index_or ups n None

-- the children of a node, in order
abbrev pub kids_of : List (List ℕ) → ℕ → List ℕ
kids_of kids n = slice_index_or kids n []

-- the shadow root of a node
abbrev pub shadow_of : List (Option ℕ) → ℕ → Option ℕ
shadow_of shadows n = slice_index_or shadows n None

abbrev pub contains : ℕ → List ℕ → Bool
contains x xs = list_any (λ y. y == x) xs

-- how often x stands in a list
abbrev pub times : ℕ → List ℕ → ℕ
times x [] = 0
times x (y ∷ ys) = (if y == x then 1 else 0) + times x ys

abbrev pub points_to : ℕ → Option ℕ → Bool
points_to p None = false
points_to p (Some q) = q == p

abbrev pub onwards : (ℕ → List ℕ) → Option ℕ → List ℕ
onwards go None = []
onwards go (Some p) = go p

-- the node, its parent, its parent's parent and so on, in at most so many steps
unfoldable pub chain : ℕ → List (Option ℕ) → ℕ → List ℕ
chain zero ups n = n ∷ []
chain (suc steps) ups n = n ∷ onwards (chain steps ups) (up_of ups n)

-- no node stands deeper than this
abbrev pub max_depth : ℕ
max_depth = 200

-- the node and all nodes above it
abbrev pub lineage : List (Option ℕ) → ℕ → List ℕ
lineage ups n = chain max_depth ups n

-- the top of a tree has depth 1; this is 201 wherever the chain is longer or runs in a circle
abbrev pub depth : List (Option ℕ) → ℕ → ℕ
depth ups n = length (lineage ups n)

abbrev pub all_shallow : List (Option ℕ) → Bool
all_shallow ups = list_all (λ n. nat_le (depth ups n) max_depth) (range_with_len 0 (length ups))

-- the node, and below it what each child has below it, in at most so many steps
unfoldable pub walk : ℕ → List (List ℕ) → ℕ → List ℕ
walk zero kids n = []
walk (suc steps) kids n = n ∷ flat_map (walk steps kids) (kids_of kids n)

abbrev pub without : ℕ → List ℕ → List ℕ
without m xs = filter (λ k. not (k == m)) xs

-- m at that place, or last where there are fewer
abbrev pub put_among : ℕ → ℕ → List ℕ → List ℕ
put_among place m xs = take place xs ++ m ∷ drop place xs

-- how many stand before n in a list
abbrev pub place_in : ℕ → List ℕ → ℕ
place_in n [] = 0
place_in n (k ∷ ks) = if k == n then 0 else 1 + place_in n ks

abbrev pub place_under : List (List ℕ) → ℕ → Option ℕ → ℕ
place_under kids n None = 0
place_under kids n (Some p) = place_in n (kids_of kids p)

-- a node's place among its siblings
abbrev pub place_of : List (Option ℕ) → List (List ℕ) → ℕ → ℕ
place_of ups kids n = place_under kids n (up_of ups n)

-- the places from the top of the node's tree down to the node
abbrev pub path_of : List (Option ℕ) → List (List ℕ) → ℕ → List ℕ
path_of ups kids n = reverse (map (place_of ups kids) (lineage ups n))

-- one path comes before another: a prefix first
abbrev pub comes_before : List ℕ → List ℕ → Type 0
comes_before p q = slice_cmp nat_cmp p q ≡ Less

-- each comes before all later ones
abbrev pub AreInOrder : List (List ℕ) → Type 0
AreInOrder [] = Unit {0}
AreInOrder (p ∷ ps) = AllByRecursion (comes_before p) ps × AreInOrder ps

-- ---- shadow roots

abbrev pub is_root_of : List (Option ℕ) → ℕ → Option ℕ → Bool
is_root_of shadows n None = false
is_root_of shadows n (Some host) = points_to n (shadow_of shadows host)

-- whether a node is its parent's shadow root
abbrev pub is_hosted : List (Option ℕ) → List (Option ℕ) → ℕ → Bool
is_hosted ups shadows n = is_root_of shadows n (up_of ups n)

-- the parent of a node in its own tree, of which a shadow root is the top
abbrev pub own_up : List (Option ℕ) → List (Option ℕ) → ℕ → Option ℕ
own_up ups shadows n = if is_hosted ups shadows n then None else up_of ups n

abbrev pub own_ups : List (Option ℕ) → List (Option ℕ) → List (Option ℕ)
own_ups ups shadows = map (own_up ups shadows) (range_with_len 0 (length ups))

abbrev pub only : Option ℕ → List ℕ
only None = []
only (Some n) = n ∷ []

-- what stands under a node: its shadow root first, then its children
abbrev pub below_of : List (Option ℕ) → List (List ℕ) → ℕ → List ℕ
below_of shadows kids n = only (shadow_of shadows n) ++ kids_of kids n

abbrev pub below : List (Option ℕ) → List (List ℕ) → List (List ℕ)
below shadows kids = map (below_of shadows kids) (range_with_len 0 (length kids))

-- ---- heights

-- whether a node and what stands under it have at most so many levels
unfoldable pub fits_levels : ℕ → List (List ℕ) → ℕ → Bool
fits_levels zero kids n = false
fits_levels (suc levels) kids n = list_all (fits_levels levels kids) (kids_of kids n)
