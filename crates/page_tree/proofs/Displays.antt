-- What is seen under a node, one level at a time.
use Rattle.std.proofs.Common.{◌≡◌, ℕ, zero, suc, ◌+◌, ◌-◌, ◌<◌, ◌≤◌, Bool, true, false, cond, List, [], ◌∷◌, Option, Some, None, length, take, drop, get_or, eqb, eq-eqb, refl, sym, ap, ◌∙◌, arith}
use Rattle.std.specs.Prelude.{not, ◌&&◌, ◌||◌, is_none}
use Rattle.std.specs.List.{list_any, find}
use Rattle.std.proofs.lemmas.List.Folds.{list_any_at, list_any_more}
use Rattle.page_tree.specs.Places.{up_of, kids_of, contains, chain, lineage, is_hosted, own_ups}
use Rattle.page_tree.specs.Rows.{Rows, IsTree, is_element, pixels_at}
use Rattle.page_tree.specs.Inside.{seen}
use Rattle.page_tree.specs.declared.geometry.Point.{Point}
use Rattle.page_tree.specs.Display.{hides, is_shown, is_choice, is_select, is_part, has_pixels, is_seen}
use Rattle.page_tree.proofs.Chains.{chain_up, chain_top, chain_end}
use Rattle.page_tree.proofs.Reach.{kid_up, stable_down}
use Rattle.page_tree.proofs.Shadows.{up_of-own_ups, each_own, shallow_own}

-- ---- what stands above a node

chain_head : (steps : ℕ) (ups : List (Option ℕ)) (n : ℕ) → chain steps ups n ≡ n ∷ drop 1 (chain steps ups n)
unfolding chain
chain_head zero ups n = refl
chain_head (suc steps) ups n = refl

-- the first of a chain settles a test
pub any_here : (test : ℕ → Bool) (steps : ℕ) (ups : List (Option ℕ)) (n : ℕ) → test n ≡ true → list_any test (chain steps ups n) ≡ true
any_here test steps ups n here = ap (list_any test) (chain_head steps ups n) ∙ ap (λ b. b || list_any test (drop 1 (chain steps ups n))) here

pub above_up : (left i : ℕ) (ups : List (Option ℕ)) (n up : ℕ) → i < left → Some up ≡ up_of ups n → drop 1 (chain (left - i) ups n) ≡ up ∷ drop 1 (chain (left - (i + 1)) ups up)
above_up left i ups n up within is = ap (λ xs. drop 1 xs) (chain_up left i ups n up within (sym is)) ∙ chain_head (left - (i + 1)) ups up

pub find_up : (test : ℕ → Bool) (left i : ℕ) (ups : List (Option ℕ)) (n up : ℕ) (b : Bool) → i < left → Some up ≡ up_of ups n → test up ≡ b
    → find test (drop 1 (chain (left - i) ups n)) ≡ cond b (Some up) (find test (drop 1 (chain (left - (i + 1)) ups up)))
find_up test left i ups n up b within is here =
    ap (find test) (above_up left i ups n up within is) ∙ ap (λ c. cond c (Some up) (find test (drop 1 (chain (left - (i + 1)) ups up)))) here

pub find_top : (test : ℕ → Bool) (left i : ℕ) (ups : List (Option ℕ)) (n : ℕ) → i < left → None ≡ up_of ups n → find test (drop 1 (chain (left - i) ups n)) ≡ None
find_top test left i ups n within is = ap (λ xs. find test (drop 1 xs)) (chain_top left i ups n within (sym is))

pub find_end : (test : ℕ → Bool) (left i : ℕ) (ups : List (Option ℕ)) (n : ℕ) → left ≤ i → find test (drop 1 (chain (left - i) ups n)) ≡ None
find_end test left i ups n past = ap (λ xs. find test (drop 1 xs)) (chain_end left i ups n past)

-- ---- what stands above a child

from_some : (b : Bool) (o : Option ℕ) (p : ℕ) → cond b None o ≡ Some p → o ≡ Some p
from_some true o p h = absurd (let e : None ≡ Some p = h in cc)
from_some false o p h = h

shown_below : (a b c d : Bool) → (b && not d) ≡ true → ((a || b) && not (c || d)) ≡ not c
shown_below true true true false h = refl
shown_below true true false false h = refl
shown_below false true true false h = refl
shown_below false true false false h = refl
shown_below a true c true h = absurd (let e : false ≡ true = h in cc)
shown_below a false c d h = absurd (let e : false ≡ true = h in cc)

none_found : (test : ℕ → Bool) (xs : List ℕ) → is_none (find test xs) ≡ not (list_any test xs)
none_found test [] = refl
none_found test (x ∷ xs) = by (test x) (find test xs) (list_any test xs) (none_found test xs)
  where
    by : (b : Bool) (o : Option ℕ) (any : Bool) → is_none o ≡ not any → is_none (cond b (Some x) o) ≡ not (b || any)
    by true o any rest = refl
    by false o any rest = rest

no_choice : (b : Bool) (o : Option ℕ) → is_none (cond b o None) ≡ not (b && not (is_none o))
no_choice true None = refl
no_choice true (Some m) = refl
no_choice false o = refl

twice : (b : Bool) → not (not b) ≡ b
twice true = refl
twice false = refl

module _ (rows : Rows) (tree : IsTree rows) where
  parent_of_kid : (n k : ℕ) → contains k (kids_of rows.kids n) ≡ true → up_of rows.ups k ≡ Some n
  parent_of_kid n k h =
      from_some (is_hosted rows.ups rows.shadows k) (up_of rows.ups k) n
      (sym (up_of-own_ups rows.ups rows.shadows k) ∙ kid_up (own_ups rows.ups rows.shadows) rows.kids (each_own rows.ups rows.shadows rows.kids tree.each) (shallow_own rows.ups rows.shadows tree.shallow) n k h)

  pub lineage_kid : (n k : ℕ) → contains k (kids_of rows.kids n) ≡ true → lineage rows.ups k ≡ k ∷ lineage rows.ups n
  lineage_kid n k h = chain_up 200 0 rows.ups k n (omega arith) (parent_of_kid n k h) ∙ ap (λ xs. k ∷ xs) (stable_down 199 rows.ups n (tree.shallow n))

  -- a child of a shown node is shown where it isn't hidden
  pub kid_shown : (n k : ℕ) → contains k (kids_of rows.kids n) ≡ true → is_shown rows n ≡ true → is_shown rows k ≡ not (hides rows k)
  kid_shown n k h shown =
      ap (λ xs. contains 0 xs && not (list_any (hides rows) xs)) (lineage_kid n k h)
      ∙ shown_below (eqb k 0) (contains 0 (lineage rows.ups n)) (hides rows k) (list_any (hides rows) (lineage rows.ups n)) shown

  pub kid_select : (n k : ℕ) → contains k (kids_of rows.kids n) ≡ true → list_any (is_select rows) (lineage rows.ups k) ≡ (is_select rows k || list_any (is_select rows) (lineage rows.ups n))
  kid_select n k h = ap (list_any (is_select rows)) (lineage_kid n k h)

  pub kid_part : (n k : ℕ) → contains k (kids_of rows.kids n) ≡ true → is_part rows k ≡ (is_element rows k && not (is_choice rows k && list_any (is_select rows) (lineage rows.ups n)))
  kid_part n k h =
      ap (λ xs. is_element rows k && is_none (cond (is_choice rows k) (find (is_select rows) (drop 1 xs)) None)) (lineage_kid n k h)
      ∙ ap (λ b. is_element rows k && b)
      (no_choice (is_choice rows k) (find (is_select rows) (lineage rows.ups n))
      ∙ ap (λ b. not (is_choice rows k && not b)) (none_found (is_select rows) (lineage rows.ups n))
      ∙ ap (λ b. not (is_choice rows k && b)) (twice (list_any (is_select rows) (lineage rows.ups n))))

-- ---- levels, one at a time

seen_zero : (rows : Rows) (n : ℕ) → is_seen zero rows n ≡ false
unfolding is_seen
seen_zero rows n = refl

seen_suc : (levels : ℕ) (rows : Rows) (n : ℕ) → is_seen (suc levels) rows n ≡ (is_shown rows n && (has_pixels (pixels_at rows n) || list_any (λ k. is_part rows k && is_seen levels rows k) (kids_of rows.kids n)))
unfolding is_seen
seen_suc levels rows n = refl

pub seen_none : (levels : ℕ) (rows : Rows) (n : ℕ) → levels ≡ 0 → is_seen levels rows n ≡ false
seen_none zero rows n h = seen_zero rows n
seen_none (suc levels) rows n h = absurd (omega arith)

pub seen_some : (levels : ℕ) (rows : Rows) (n : ℕ) → 0 < levels → is_seen levels rows n ≡ (is_shown rows n && (has_pixels (pixels_at rows n) || list_any (λ k. is_part rows k && is_seen (levels - 1) rows k) (kids_of rows.kids n)))
seen_some zero rows n h = absurd (omega arith)
seen_some (suc levels) rows n h = let e : suc levels - 1 ≡ levels = omega arith in rw e (seen_suc levels rows n)

-- what isn't shown isn't seen
pub unseen : (levels : ℕ) (rows : Rows) (n : ℕ) → is_shown rows n ≡ false → is_seen levels rows n ≡ false
unseen zero rows n h = seen_zero rows n
unseen (suc levels) rows n h = seen_suc levels rows n ∙ rw h refl

pub item_in : (xs : List ℕ) (i k : ℕ) → i < length xs → k ≡ get_or xs i k → contains k xs ≡ true
item_in xs i k within is = list_any_at (λ y. eqb y k) xs i k within (eq-eqb (get_or xs i k) k (sym is))

neither : (a b c d : Bool) → a ≡ true → b ≡ false → c ≡ false → d ≡ (a && (b || c)) → d ≡ false
neither a b c d one two three is = is ∙ rw (one, two, three) refl

both : (a b : Bool) → a ≡ true → b ≡ true → (a && b) ≡ true
both a b one two = rw (one, two) refl

last_false : (a b : Bool) → b ≡ false → (a && b) ≡ false
last_false true b h = h
last_false false b h = refl

module _ (rows : Rows) (tree : IsTree rows) (levels n : ℕ) (some : 0 < levels) (shown : is_shown rows n ≡ true) where
  pub seen_by_box : has_pixels (pixels_at rows n) ≡ true → is_seen levels rows n ≡ true
  seen_by_box box = seen_some levels rows n some ∙ rw (shown, box) refl

  pub seen_by_none : has_pixels (pixels_at rows n) ≡ false → list_any (λ k. is_part rows k && is_seen (levels - 1) rows k) (kids_of rows.kids n) ≡ false → is_seen levels rows n ≡ false
  seen_by_none box kids = neither (is_shown rows n) (has_pixels (pixels_at rows n)) (list_any (λ k. is_part rows k && is_seen (levels - 1) rows k) (kids_of rows.kids n)) (is_seen levels rows n) shown box kids (seen_some levels rows n some)

  -- the child at place i
  module _ (i k : ℕ) (within : i < length (kids_of rows.kids n)) (is : k ≡ get_or (kids_of rows.kids n) i k) where
    kid_in : contains k (kids_of rows.kids n) ≡ true
    kid_in = item_in (kids_of rows.kids n) i k within is

    pub seen_by_kid : is_part rows k ≡ true → is_seen (levels - 1) rows k ≡ true → has_pixels (pixels_at rows n) ≡ false → is_seen levels rows n ≡ true
    seen_by_kid part seen box =
        seen_some levels rows n some ∙ rw (shown, box) (list_any_at (λ m. is_part rows m && is_seen (levels - 1) rows m) (kids_of rows.kids n) i k within
        (ap (λ m. is_part rows m && is_seen (levels - 1) rows m) (sym is) ∙ both (is_part rows k) (is_seen (levels - 1) rows k) part seen))

    pub kid_is_shown : (b : Bool) → (b && not (hides rows k)) ≡ true → is_shown rows k ≡ true
    kid_is_shown true h = kid_shown rows tree n k kid_in shown ∙ h
    kid_is_shown false h = absurd (let e : false ≡ true = h in cc)

    pub kid_is_part : (in_select b : Bool) → in_select ≡ list_any (is_select rows) (lineage rows.ups n) → ((is_element rows k && not (is_choice rows k && in_select)) && b) ≡ true → is_part rows k ≡ true
    kid_is_part in_select b select h =
        kid_part rows tree n k kid_in ∙ ap (λ c. is_element rows k && not (is_choice rows k && c)) (sym select) ∙ first (is_element rows k && not (is_choice rows k && in_select)) b h
      where
        first : (a b : Bool) → (a && b) ≡ true → a ≡ true
        first true b h = refl
        first false b h = absurd (let e : false ≡ true = h in cc)

    pub kid_under_select : (in_select : Bool) → in_select ≡ list_any (is_select rows) (lineage rows.ups n) → (is_select rows k || in_select) ≡ list_any (is_select rows) (lineage rows.ups k)
    kid_under_select in_select select = ap (λ b. is_select rows k || b) select ∙ sym (kid_select rows tree n k kid_in)

    pub kid_left_out : (in_select : Bool) → in_select ≡ list_any (is_select rows) (lineage rows.ups n) → ((is_element rows k && not (is_choice rows k && in_select)) && not (hides rows k)) ≡ false → (is_part rows k && is_seen (levels - 1) rows k) ≡ false
    kid_left_out in_select select out =
        by (is_element rows k && not (is_choice rows k && in_select)) (not (hides rows k)) out
        (kid_part rows tree n k kid_in ∙ ap (λ c. is_element rows k && not (is_choice rows k && c)) (sym select))
        (kid_shown rows tree n k kid_in shown)
      where
        by : (a b : Bool) → (a && b) ≡ false → is_part rows k ≡ a → is_shown rows k ≡ b → (is_part rows k && is_seen (levels - 1) rows k) ≡ false
        by true b none part seen = last_false (is_part rows k) (is_seen (levels - 1) rows k) (unseen (levels - 1) rows k (seen ∙ none))
        by false b none part seen = rw part refl

    pub kid_unseen : is_seen (levels - 1) rows k ≡ false → (is_part rows k && is_seen (levels - 1) rows k) ≡ false
    kid_unseen none = last_false (is_part rows k) (is_seen (levels - 1) rows k) none

    pub none_more : list_any (λ m. is_part rows m && is_seen (levels - 1) rows m) (take i (kids_of rows.kids n)) ≡ false → (is_part rows k && is_seen (levels - 1) rows k) ≡ false
        → list_any (λ m. is_part rows m && is_seen (levels - 1) rows m) (take (i + 1) (kids_of rows.kids n)) ≡ false
    none_more before here =
        list_any_more (λ m. is_part rows m && is_seen (levels - 1) rows m) (kids_of rows.kids n) i k within
        ∙ ap (λ b. b || (is_part rows (get_or (kids_of rows.kids n) i k) && is_seen (levels - 1) rows (get_or (kids_of rows.kids n) i k))) before
        ∙ ap (λ m. is_part rows m && is_seen (levels - 1) rows m) (sym is) ∙ here

-- ---- the focus and the scrolling don't count

pub seen_anyhow : (levels : ℕ) (rows : Rows) (focus : Option ℕ) (scroll : Point) (n : ℕ) → is_seen levels rows n ≡ is_seen levels (seen rows focus scroll) n
seen_anyhow zero rows focus scroll n = seen_zero rows n ∙ sym (seen_zero (seen rows focus scroll) n)
seen_anyhow (suc levels) rows focus scroll n =
    seen_suc levels rows n
    ∙ ap (λ (below : ℕ → Bool). is_shown rows n && (has_pixels (pixels_at rows n) || list_any (λ k. is_part rows k && below k) (kids_of rows.kids n))) (λ i k. seen_anyhow levels rows focus scroll k i)
    ∙ sym (seen_suc levels (seen rows focus scroll) n)
