-- What is above a node, one step at a time.
use Rattle.std.proofs.Common.{◌≡◌, ℕ, zero, suc, ◌+◌, ◌-◌, ◌<◌, ◌≤◌, Bool, cond, List, [], ◌∷◌, Option, Some, None, drop, refl, sym, ap, ◌∙◌}
use Rattle.std.specs.Prelude.{◌||◌}
use Rattle.std.specs.List.{list_any}
use Rattle.page_tree.specs.Places.{up_of, chain}
use Rattle.page_tree.specs.Rows.{Rows, IsTree, is_shadow}
use Rattle.page_tree.proofs.Chains.{chain_up, chain_top, chain_end}
use Rattle.page_tree.proofs.Shadows.{up_of-own_ups}
use Rattle.selectors.specs.Siblings.{own_parent}

chain_head : (steps : ℕ) (ups : List (Option ℕ)) (n : ℕ) → chain steps ups n ≡ n ∷ drop 1 (chain steps ups n)
unfolding chain
chain_head zero ups n = refl
chain_head (suc steps) ups n = refl

pub above_up : (left i : ℕ) (ups : List (Option ℕ)) (n up : ℕ) → i < left → Some up ≡ up_of ups n → drop 1 (chain (left - i) ups n) ≡ up ∷ drop 1 (chain (left - (i + 1)) ups up)
above_up left i ups n up within is = ap (λ xs. drop 1 xs) (chain_up left i ups n up within (sym is)) ∙ chain_head (left - (i + 1)) ups up

pub above_top : (left i : ℕ) (ups : List (Option ℕ)) (n : ℕ) → i < left → None ≡ up_of ups n → drop 1 (chain (left - i) ups n) ≡ []
above_top left i ups n within is = ap (λ xs. drop 1 xs) (chain_top left i ups n within (sym is))

pub above_end : (left i : ℕ) (ups : List (Option ℕ)) (n : ℕ) → left ≤ i → drop 1 (chain (left - i) ups n) ≡ []
above_end left i ups n past = ap (λ xs. drop 1 xs) (chain_end left i ups n past)

-- ---- a test of each

pub any_up : (f : ℕ → Bool) (left i : ℕ) (ups : List (Option ℕ)) (n up : ℕ) (b : Bool) → i < left → Some up ≡ up_of ups n → f up ≡ b
    → list_any f (drop 1 (chain (left - i) ups n)) ≡ (b || list_any f (drop 1 (chain (left - (i + 1)) ups up)))
any_up f left i ups n up b within is test =
    ap (list_any f) (above_up left i ups n up within is) ∙ ap (λ c. c || list_any f (drop 1 (chain (left - (i + 1)) ups up))) test

-- the parent in the node's own tree, as it is found
pub own_parent_is : (rows : Rows) (n : ℕ) → IsTree rows → own_parent rows n ≡ cond (is_shadow rows n) None (up_of rows.ups n)
own_parent_is rows n tree = up_of-own_ups rows.ups rows.shadows n ∙ ap (λ b. cond b None (up_of rows.ups n)) (sym (tree.roots n))
