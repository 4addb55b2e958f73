-- What stands below a node in its own tree, the node left out.
use Rattle.std.proofs.Common.{◌≡◌, ◌≢◌, ℕ, zero, suc, ◌+◌, ◌≤◌, Bool, true, false, List, [], ◌∷◌, Option, Some, None, drop, eqb, refl, sym, ap, ◌∙◌, subst, arith, inl, inr}
use Rattle.std.specs.Prelude.{◌||◌}
use Rattle.std.specs.List.{flat_map}
use Rattle.std.proofs.lemmas.Bool.{cases_eq}
use Rattle.page_tree.specs.Places.{up_of, kids_of, contains, onwards, chain, lineage, depth, own_ups, walk, max_depth, comes_before, AreInOrder}
use Rattle.page_tree.specs.Rows.{Rows, IsTree, path, paths_of}
use Rattle.page_tree.proofs.Chains.{chain-suc, chain-zero}
use Rattle.page_tree.proofs.Paths.{walk-step, depth_up}
use Rattle.page_tree.proofs.Reach.{or_split, same_number}
use Rattle.page_tree.proofs.RowLemmas.{subtree_by_paths, subtree_has}
use Rattle.page_tree.proofs.Shadows.{each_own, shallow_own}
use Rattle.selectors.specs.Siblings.{own_above}
use Rattle.selectors.proofs.Orders.{path_at, not_before_itself}

never : (b : Bool) → (b ≡ true → ⊥) → b ≡ false
never true not = absurd (not refl)
never false not = refl

apart_numbers : (m n : ℕ) → m ≢ n → eqb m n ≡ false
apart_numbers m n apart = grind (arith, apart)

module _ (rows : Rows) (tree : IsTree rows) where
  abbrev own : List (Option ℕ)
  own = own_ups rows.ups rows.shadows

  deeper : (p k : ℕ) → up_of own k ≡ Some p → depth own k ≡ depth own p + 1
  deeper = depth_up own rows.kids rows.kids (λ n. []) (λ n. refl) (each_own rows.ups rows.shadows rows.kids tree.each) (shallow_own rows.ups rows.shadows tree.shallow)

  same_depth : (m n : ℕ) → n ≡ m → depth own m ≤ depth own n
  same_depth m n same = let e : depth own n ≡ depth own m = ap (depth own) same in omega arith

  -- what a chain of parents meets stands no deeper than where it starts
  no_deeper : (steps n m : ℕ) → contains m (chain steps own n) ≡ true → depth own m ≤ depth own n
  no_deeper zero n m h = elim (or_split (eqb n m) false (sym (ap (contains m) (chain-zero own n)) ∙ h)) [ inl here ↦ same_depth m n (same_number n m here) | inr none ↦ cc ]
  no_deeper (suc steps) n m h = elim (or_split (eqb n m) (contains m (onwards (chain steps own) (up_of own n))) (sym (ap (contains m) (chain-suc steps own n)) ∙ h)) [
    | inl here ↦ same_depth m n (same_number n m here)
    | inr later ↦ further (no_deeper steps) (up_of own n) refl later
  ]
    where
      further : ((k l : ℕ) → contains l (chain steps own k) ≡ true → depth own l ≤ depth own k) → (o : Option ℕ) → up_of own n ≡ o → contains m (onwards (chain steps own) o) ≡ true → depth own m ≤ depth own n
      further inner None up h = absurd (let e : false ≡ true = h in cc)
      further inner (Some p) up h = let low = inner p m h in let next = deeper p n up in omega arith

  above_is : (n : ℕ) → own_above rows n ≡ onwards (chain 199 own) (up_of own n)
  above_is n = ap (λ xs. drop 1 xs) (chain-suc 199 own n)

  lineage_is : (n : ℕ) → lineage own n ≡ n ∷ own_above rows n
  lineage_is n = chain-suc 199 own n ∙ ap (λ xs. n ∷ xs) (sym (above_is n))

  not_above_itself : (n : ℕ) → contains n (own_above rows n) ≡ false
  not_above_itself n = ap (contains n) (above_is n) ∙ at (up_of own n) refl
    where
      at : (o : Option ℕ) → up_of own n ≡ o → contains n (onwards (chain 199 own) o) ≡ false
      at None up = refl
      at (Some p) up = never (contains n (chain 199 own p)) (λ h. (let low = no_deeper 199 p n h in let next = deeper p n up in omega arith))

  abbrev under : ℕ → List ℕ
  under top = flat_map (walk 199 rows.kids) (kids_of rows.kids top)

  under_is : (top : ℕ) → drop 1 (walk max_depth rows.kids top) ≡ under top
  under_is top = ap (λ xs. drop 1 xs) (walk-step 199 rows.kids top)

  in_order : (top : ℕ) → AreInOrder (paths_of rows (top ∷ under top))
  in_order top = subst (λ xs. AreInOrder (paths_of rows xs)) (walk-step 199 rows.kids top) (subtree_by_paths rows tree top)

  not_under_itself : (top : ℕ) → contains top (under top) ≡ false
  not_under_itself top = never (contains top (under top)) (λ h. not_before_itself (path rows top) (path_at (comes_before (path rows top)) (path rows) (under top) top ((in_order top).0) h))

  -- it is in document order
  pub below_by_paths : (top : ℕ) → AreInOrder (paths_of rows (drop 1 (walk max_depth rows.kids top)))
  below_by_paths top = subst (λ xs. AreInOrder (paths_of rows xs)) (sym (under_is top)) ((in_order top).1)

  -- and has exactly the nodes that have the node above them in their own tree
  pub below_has : (top n : ℕ) → contains n (drop 1 (walk max_depth rows.kids top)) ≡ contains top (own_above rows n)
  below_has top n =
      let whole : (eqb top n || contains n (under top)) ≡ (eqb n top || contains top (own_above rows n)) = sym (ap (contains n) (walk-step 199 rows.kids top)) ∙ subtree_has rows tree top n ∙ ap (contains top) (lineage_is n) in
      ap (contains n) (under_is top) ∙ elim (cases_eq n top) [
        | inl same ↦ ap (λ m. contains m (under top)) same ∙ not_under_itself top ∙ sym (ap (λ m. contains top (own_above rows m)) same ∙ not_above_itself top)
        | inr apart ↦
            sym (ap (λ b. b || contains n (under top)) (apart_numbers top n (λ e. apart (sym e)))) ∙ whole ∙ ap (λ b. b || contains top (own_above rows n)) (apart_numbers n top apart)
      ]
