-- A move of a node: when it is refused, and what it leaves.
use Rattle.std.proofs.Common.{◌≡◌, ℕ, ◌<◌, Bool, true, false, cond, Some, None, length, Option, set, refl, sym, ap, ◌∙◌, subst, arith}
use Rattle.std.proofs.lemmas.List.{set-set}
use Rattle.page_tree.specs.Places.{all_shallow, contains, lineage}
use Rattle.page_tree.specs.Faults.{move_refusal}
use Rattle.page_tree.specs.Inside.{seen}
use Rattle.page_tree.specs.declared.geometry.Point.{Point}
use Rattle.page_tree.specs.declared.fault.TreeFault.TheVariants.{Depth, Cycle}
use Rattle.page_tree.specs.Rows.{Rows, IsTree, detached, attached, moved, count, is_shadow, is_text}
use Rattle.page_tree.proofs.Trees.{moved_is_tree, detached_is_tree}

ups_moved : (rows : Rows) (m p place : ℕ) → (moved rows m p place).ups ≡ set rows.ups m (Some p)
ups_moved rows m p place = set-set rows.ups m None (Some p)

refusal_is : (rows : Rows) (m p place : ℕ) (above fits : Bool) → above ≡ contains m (lineage rows.ups p) → fits ≡ all_shallow (set rows.ups m (Some p))
    → move_refusal rows m p place ≡ cond above (Some Cycle) (cond fits None (Some Depth))
refusal_is rows m p place above fits a f = rw (a, f, ← ups_moved rows m p place) refl

-- what refuses a move, from the two tests of the rows
pub refusal_now : (rows now : Rows) (focus : Option ℕ) (scroll : Point) → seen rows focus scroll ≡ now → (m p place : ℕ) (above fits : Bool) → above ≡ contains m (lineage rows.ups p) → fits ≡ all_shallow (set rows.ups m (Some p))
    → cond above (Some Cycle) (cond fits None (Some Depth)) ≡ move_refusal now m p place
refusal_now rows now focus scroll view m p place above fits a f = sym (refusal_is rows m p place above fits a f) ∙ ap (λ r. move_refusal r m p place) view

-- after the writes of a move
pub moved_nodes : (rows mid new now : Rows) (focus : Option ℕ) (scroll : Point) (m p place : ℕ) → seen rows focus scroll ≡ now → mid ≡ detached rows m → new ≡ attached mid m p place
    → IsTree (seen rows focus scroll) → 0 < m → is_shadow now m ≡ false → is_text now p ≡ false → m < count now → p < count now → true ≡ all_shallow (set rows.ups m (Some p)) → IsTree (seen new focus scroll)
moved_nodes rows mid new now focus scroll m p place view first second tree not_top plain no_text m_in p_in shallow =
    let same : length rows.ups ≡ length now.ups = ap (λ r. length r.ups) view in
    subst IsTree (sym (ap (λ r. seen r focus scroll) (second ∙ ap (λ r. attached r m p place) first)))
    (moved_is_tree (seen rows focus scroll) m p place tree not_top (ap (λ r. is_shadow r m) view ∙ plain) (ap (λ r. is_text r p) view ∙ no_text) (omega arith) (omega arith) (ap all_shallow (ups_moved rows m p place) ∙ sym shallow))

-- where there was no memory for it
pub detached_nodes : (rows mid new now : Rows) (focus : Option ℕ) (scroll : Point) (m : ℕ) → seen rows focus scroll ≡ now → mid ≡ detached rows m → new ≡ mid
    → IsTree (seen rows focus scroll) → 0 < m → is_shadow now m ≡ false → IsTree (seen new focus scroll)
detached_nodes rows mid new now focus scroll m view first second tree not_top plain =
    subst IsTree (sym (ap (λ r. seen r focus scroll) (second ∙ first))) (detached_is_tree (seen rows focus scroll) m tree not_top (ap (λ r. is_shadow r m) view ∙ plain))
