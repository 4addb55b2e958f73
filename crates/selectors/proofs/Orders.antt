-- What is picked out of nodes in order is in order, and the first of them comes before all others.
use Rattle.std.proofs.Common.{◌≡◌, ℕ, Bool, true, false, cond, List, [], ◌∷◌, Less, Equal, eqb, eq-eqb, refl, sym, ap, subst, ◌∙◌, arith, inl, inr, ◌⊎◌}
use Rattle.std.specs.Prelude.{map, filter, ◌&&◌}
use Rattle.std.specs.List.{AllByRecursion}
use Rattle.std.specs.Ordering.{nat_cmp}
use Rattle.page_tree.specs.Places.{AreInOrder, comes_before, contains}
use Rattle.page_tree.specs.Rows.{Rows, path, paths_of}
use Rattle.page_tree.proofs.Reach.{or_split, or_left, same_number}
use Rattle.selectors.specs.Named.{first_of_list}
use Rattle.selectors.specs.Scopes.{IsFirst}
use Rattle.selectors.proofs.RightToLeft.{contains-filter}

all_picked : (P : List ℕ → Type 0) (path : ℕ → List ℕ) (p : ℕ → Bool) (xs : List ℕ) → AllByRecursion P (map path xs) → AllByRecursion P (map path (filter p xs))
all_picked P path p [] each = tt
all_picked P path p (x ∷ xs) each = at (p x) (all_picked P path p xs each.1)
  where
    at : (b : Bool) → AllByRecursion P (map path (filter p xs)) → AllByRecursion P (map path (cond b (x ∷ filter p xs) (filter p xs)))
    at true rest = (each.0, rest)
    at false rest = rest

pub picked_in_order : (path : ℕ → List ℕ) (p : ℕ → Bool) (xs : List ℕ) → AreInOrder (map path xs) → AreInOrder (map path (filter p xs))
picked_in_order path p [] each = tt
picked_in_order path p (x ∷ xs) each = at (p x) (all_picked (comes_before (path x)) path p xs each.0) (picked_in_order path p xs each.1)
  where
    at : (b : Bool) → AllByRecursion (comes_before (path x)) (map path (filter p xs)) → AreInOrder (map path (filter p xs)) → AreInOrder (map path (cond b (x ∷ filter p xs) (filter p xs)))
    at true here rest = (here, rest)
    at false here rest = rest

-- so of what was kept of a list in order
pub kept_in_order : (rows : Rows) (p : ℕ → Bool) (xs found : List ℕ) → filter p xs ≡ found → AreInOrder (paths_of rows xs) → AreInOrder (paths_of rows found)
kept_in_order rows p xs found same order = subst (λ (list : List ℕ). AreInOrder (paths_of rows list)) same (picked_in_order (path rows) p xs order)

-- what holds of each path holds of that of a node in the list
pub path_at : (P : List ℕ → Type 0) (path : ℕ → List ℕ) (xs : List ℕ) (n : ℕ) → AllByRecursion P (map path xs) → contains n xs ≡ true → P (path n)
path_at P path [] n each at = absurd (let e : false ≡ true = at in cc)
path_at P path (x ∷ xs) n each at = elim (or_split (eqb x n) (contains n xs) at) [
  | inl here ↦ subst (λ m. P (path m)) (same_number x n here) each.0
  | inr later ↦ path_at P path xs n each.1 later
]

same_place : (x : ℕ) → nat_cmp x x ≡ Equal
same_place x = grind arith

pub not_before_itself : (p : List ℕ) → comes_before p p → ⊥
not_before_itself [] before = let e : Equal ≡ Less = before in cc
not_before_itself (x ∷ p) before = not_before_itself p (rw (same_place x) at before)

-- the first of a list in order is the first of the nodes that the list has
pub first_is : (rows : Rows) (looked_for : ℕ → Bool) (xs : List ℕ) → AreInOrder (paths_of rows xs) → ((n : ℕ) → contains n xs ≡ looked_for n) → IsFirst rows looked_for (first_of_list xs)
first_is rows looked_for [] order each = λ n. sym (each n)
first_is rows looked_for (x ∷ xs) order each = (sym (each x) ∙ or_left (eqb x x) (contains x xs) (eq-eqb x x refl), others)
  where
    others : (n : ℕ) → looked_for n ≡ true → (n ≡ x) ⊎ comes_before (path rows x) (path rows n)
    others n is = elim (or_split (eqb x n) (contains n xs) (each n ∙ is)) [
      | inl here ↦ inl (sym (same_number x n here))
      | inr later ↦ inr (path_at (comes_before (path rows x)) (path rows) xs n order.0 later)
    ]

pub first_picked : (rows : Rows) (p in_scope : ℕ → Bool) (xs : List ℕ) → AreInOrder (paths_of rows xs) → ((n : ℕ) → contains n xs ≡ in_scope n) → IsFirst rows (λ n. in_scope n && p n) (first_of_list (filter p xs))
first_picked rows p in_scope xs order each = first_is rows (λ n. in_scope n && p n) (filter p xs) (picked_in_order (path rows) p xs order) (λ n. contains-filter p n xs ∙ ap (λ b. b && p n) (each n))
