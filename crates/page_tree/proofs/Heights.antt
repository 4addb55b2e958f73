-- A node put elsewhere stands shallow if the depth there and the height of what is moved fit.
use Rattle.std.proofs.Common.{◌≡◌, ◌≢◌, ℕ, zero, suc, ◌+◌, ◌-◌, ◌<◌, ◌≤◌, Bool, true, false, cond, List, [], ◌∷◌, Option, Some, None, length, eqb, eq-eqb, set, get_or, refl, sym, ap, ◌∙◌, subst, arith, inl, inr, true≢false}
use Rattle.std.specs.Prelude.{◌||◌, ◌&&◌, nat_le}
use Rattle.std.specs.List.{list_all, range_with_len}
use Rattle.std.proofs.lemmas.Bool.{cases_eq}
use Rattle.std.proofs.lemmas.List.{get_or-set_same, get_or-set_other, length-map}
use Rattle.std.proofs.lemmas.List.Folds.{list_all-append, list_all_at}
use Rattle.page_tree.specs.Places.{up_of, kids_of, times, points_to, contains, onwards, chain, lineage, depth, max_depth, all_shallow, fits_levels, shadow_of, only, below_of, below}
use Rattle.page_tree.specs.Rows.{IsTree}
use Rattle.page_tree.specs.Inside.{rows_of, ups_of, kids_lists, shadows_of}
use Rattle.page_tree.specs.declared.node.Node.{Node}
use Rattle.page_tree.proofs.Chains.{chain-suc, chain-zero}
use Rattle.page_tree.proofs.Paths.{stable}
use Rattle.page_tree.proofs.Reach.{or_split, or_left, iff_same, same_number, kid_up, up_kid}
use Rattle.page_tree.proofs.Shadows.{kids_of-below, each_below}
use Rattle.page_tree.proofs.Trees.{shallow_at}

-- ---- levels, one at a time
levels-zero : (kids : List (List ℕ)) (n : ℕ) → fits_levels zero kids n ≡ false
unfolding fits_levels
levels-zero kids n = refl

levels-suc : (levels : ℕ) (kids : List (List ℕ)) (n : ℕ) → fits_levels (suc levels) kids n ≡ list_all (fits_levels levels kids) (kids_of kids n)
unfolding fits_levels
levels-suc levels kids n = refl

pub levels_none : (levels : ℕ) (kids : List (List ℕ)) (n : ℕ) → levels ≡ 0 → fits_levels levels kids n ≡ false
levels_none zero kids n h = levels-zero kids n
levels_none (suc levels) kids n h = absurd (omega arith)

pub levels_some : (levels : ℕ) (kids : List (List ℕ)) (n : ℕ) → 0 < levels → fits_levels levels kids n ≡ list_all (fits_levels (levels - 1) kids) (kids_of kids n)
levels_some zero kids n h = absurd (omega arith)
levels_some (suc levels) kids n h = let e : suc levels - 1 ≡ levels = omega arith in rw e (levels-suc levels kids n)

-- ---- all of a list
all_from : (test : ℕ → Bool) (xs : List ℕ) → ((k : ℕ) → contains k xs ≡ true → test k ≡ true) → list_all test xs ≡ true
all_from test [] each = refl
all_from test (x ∷ xs) each = rw (each x (or_left (eqb x x) (contains x xs) (eq-eqb x x refl))) (all_from test xs (λ k h. each k (or_last (eqb x k) (contains k xs) h)))
  where
    or_last : (a b : Bool) → b ≡ true → (a || b) ≡ true
    or_last true b h = refl
    or_last false b h = h

and_split : (a b : Bool) → (a && b) ≡ true → (a ≡ true) × (b ≡ true)
and_split true b h = (refl, h)
and_split false b h = absurd (true≢false (sym h))

and_false : (a b : Bool) → b ≡ false → (a && b) ≡ false
and_false true b h = h
and_false false b h = refl

and_true : (a b : Bool) → b ≡ true → (a && b) ≡ a
and_true true b h = h
and_true false b h = refl

one_of_all : (test : ℕ → Bool) (xs : List ℕ) (k : ℕ) → list_all test xs ≡ true → contains k xs ≡ true → test k ≡ true
one_of_all test [] k all at = absurd (let e : false ≡ true = at in cc)
one_of_all test (x ∷ xs) k all at =
    let parts = and_split (test x) (list_all test xs) all in
    elim (or_split (eqb x k) (contains k xs) at) [
      | inl here ↦ ap test (sym (same_number x k here)) ∙ parts.0
      | inr later ↦ one_of_all test xs k parts.1 later
    ]

-- ---- chains
onwards_longer : (f g : ℕ → List ℕ) (o : Option ℕ) → ((p : ℕ) → length (f p) ≤ length (g p)) → length (onwards f o) ≤ length (onwards g o)
onwards_longer f g None h = omega arith
onwards_longer f g (Some p) h = h p

chain_longer : (steps : ℕ) (ups : List (Option ℕ)) (n : ℕ) → length (chain steps ups n) ≤ length (chain (suc steps) ups n)
chain_longer zero ups n = omega (arith, ap length (chain-zero ups n), ap length (chain-suc 0 ups n))
chain_longer (suc steps) ups n =
    omega (arith, ap length (chain-suc steps ups n), ap length (chain-suc (suc steps) ups n), onwards_longer (chain steps ups) (chain (suc steps) ups) (up_of ups n) (chain_longer steps ups))

first_step : (ups : List (Option ℕ)) (n q : ℕ) → up_of ups n ≡ Some q → depth ups n ≡ suc (length (chain 199 ups q))
first_step ups n q up = ap length (chain-suc 199 ups n ∙ ap (λ o. n ∷ onwards (chain 199 ups) o) up)

one_deeper : (ups : List (Option ℕ)) (n q : ℕ) → up_of ups n ≡ Some q → depth ups n ≤ depth ups q + 1
one_deeper ups n q up = omega (arith, first_step ups n q up, chain_longer 199 ups q)

just_deeper : (ups : List (Option ℕ)) (n q : ℕ) → up_of ups n ≡ Some q → depth ups n ≤ 200 → depth ups n ≡ depth ups q + 1
just_deeper ups n q up shallow =
    let first = first_step ups n q up in
    let short : length (chain 199 ups q) ≤ 199 = omega arith in
    omega (arith, first, ap length (stable 199 ups q short))

onwards_away : (f g : ℕ → List ℕ) (m : ℕ) (o : Option ℕ) → contains m (onwards f o) ≡ false → ((q : ℕ) → contains m (f q) ≡ false → g q ≡ f q) → onwards g o ≡ onwards f o
onwards_away f g m None away same = refl
onwards_away f g m (Some q) away same = same q away

or_none : (a b : Bool) → (a || b) ≡ false → (a ≡ false) × (b ≡ false)
or_none true b h = absurd (true≢false h)
or_none false b h = (refl, h)

-- the parents but for that of m
module _ (ups vps : List (Option ℕ)) (m : ℕ) (others : (n : ℕ) → n ≢ m → up_of vps n ≡ up_of ups n) where
  not_here : (n : ℕ) → eqb n m ≡ false → n ≢ m
  not_here n away same = true≢false (sym (eq-eqb n m same) ∙ away)

  chain_away : (steps n : ℕ) → contains m (chain steps ups n) ≡ false → chain steps vps n ≡ chain steps ups n
  chain_away zero n away = chain-zero vps n ∙ sym (chain-zero ups n)
  chain_away (suc steps) n away =
      let parts = or_none (eqb n m) (contains m (onwards (chain steps ups) (up_of ups n))) (sym (ap (contains m) (chain-suc steps ups n)) ∙ away) in
      chain-suc steps vps n ∙ ap (λ o. n ∷ onwards (chain steps vps) o) (others n (not_here n parts.0))
      ∙ ap (λ xs. n ∷ xs) (onwards_away (chain steps ups) (chain steps vps) m (up_of ups n) parts.1 (chain_away steps)) ∙ sym (chain-suc steps ups n)

-- ---- m is put under p
module _ (ups : List (Option ℕ)) (kids : List (List ℕ)) (each : (p m : ℕ) → times m (kids_of kids p) ≡ cond (points_to p (up_of ups m)) 1 0) (shallow : (n : ℕ) → length (lineage ups n) ≤ 200) (m p : ℕ) (within : m < length ups) (apart : contains m (lineage ups p) ≡ false) where
  abbrev pub after : List (Option ℕ)
  after = set ups m (Some p)

  up_here : up_of after m ≡ Some p
  up_here = get_or-set_same ups m (Some p) None within

  up_other : (n : ℕ) → n ≢ m → up_of after n ≡ up_of ups n
  up_other n away = get_or-set_other ups m n (Some p) None away

  depth_there : depth after p ≡ depth ups p
  depth_there = ap length (chain_away ups after m up_other 200 p apart)

  -- a node at or below m, and how much room there is for it
  record IsBelow (n : ℕ) : Type 0 where
    room : ℕ
    fits : fits_levels room kids n ≡ true
    near : depth after n + room ≤ 201

  at_top : fits_levels (200 - depth ups p) kids m ≡ true → IsBelow m
  at_top fits = record { room = 200 - depth ups p; fits = fits; near = omega (arith, one_deeper after m p up_here, depth_there, shallow p) }

  one_below : (n q : ℕ) → n ≢ m → up_of ups n ≡ Some q → (room : ℕ) → fits_levels room kids q ≡ true → depth after q + room ≤ 201 → IsBelow n
  one_below n q away up zero fits near = absurd (true≢false (sym fits ∙ levels-zero kids q))
  one_below n q away up (suc room) fits near = record {
    room = room;
    fits = one_of_all (fits_levels room kids) (kids_of kids q) n (sym (levels-suc room kids q) ∙ fits) (up_kid ups kids each shallow q n up);
    near = omega (arith, one_deeper after n q (up_other n away ∙ up));
  }

  further : (n : ℕ) → n ≢ m → (f : ℕ → List ℕ) → ((q : ℕ) → contains m (f q) ≡ true → IsBelow q) → (o : Option ℕ) → up_of ups n ≡ o → contains m (onwards f o) ≡ true → IsBelow n
  further n away f inner None up h = absurd (let e : false ≡ true = h in cc)
  further n away f inner (Some q) up h = let under = inner q h in one_below n q away up under.room under.fits under.near

  here : fits_levels (200 - depth ups p) kids m ≡ true → (n : ℕ) → n ≡ m → IsBelow n
  here fits n same = subst IsBelow (sym same) (at_top fits)

  is_below : fits_levels (200 - depth ups p) kids m ≡ true → (steps n : ℕ) → contains m (chain steps ups n) ≡ true → IsBelow n
  is_below fits zero n h = elim (or_split (eqb n m) false (sym (ap (contains m) (chain-zero ups n)) ∙ h)) [ inl same ↦ here fits n (same_number n m same) | inr never ↦ cc ]
  is_below fits (suc steps) n h = elim (cases_eq n m) [
    | inl same ↦ here fits n same
    | inr away ↦ elim (or_split (eqb n m) (contains m (onwards (chain steps ups) (up_of ups n))) (sym (ap (contains m) (chain-suc steps ups n)) ∙ h)) [
      | inl same ↦ absurd (away (same_number n m same))
      | inr later ↦ further n away (chain steps ups) (is_below fits steps) (up_of ups n) refl later
    ]
  ]

  below_shallow : (n room : ℕ) → fits_levels room kids n ≡ true → depth after n + room ≤ 201 → depth after n ≤ 200
  below_shallow n zero fits near = absurd (true≢false (sym fits ∙ levels-zero kids n))
  below_shallow n (suc room) fits near = omega arith

  then_shallow : fits_levels (200 - depth ups p) kids m ≡ true → (n : ℕ) (b : Bool) → contains m (lineage ups n) ≡ b → depth after n ≤ 200
  then_shallow fits n true under = let at = is_below fits 200 n under in below_shallow n at.room at.fits at.near
  then_shallow fits n false away = omega (arith, ap length (chain_away ups after m up_other 200 n away), shallow n)

  then_all : fits_levels (200 - depth ups p) kids m ≡ true → all_shallow after ≡ true
  then_all fits = all_from (λ n. nat_le (depth after n) max_depth) (range_with_len 0 (length after)) (λ n at. (let low = then_shallow fits n (contains m (lineage ups n)) refl in grind (arith, low)))

  fits_from : ((n : ℕ) → depth after n ≤ 200) → (room n : ℕ) → depth ups m ≤ depth ups n → 201 ≤ depth after n + room → fits_levels room kids n ≡ true
  fits_from low zero n under far = absurd (omega (arith, low n))
  fits_from low (suc room) n under far =
      levels-suc room kids n ∙ all_from (fits_levels room kids) (kids_of kids n) (λ k at.
      (let up : up_of ups k ≡ Some n = kid_up ups kids each shallow n k at in
      let deeper : depth ups k ≡ depth ups n + 1 = just_deeper ups k n up (shallow k) in
      let away : k ≢ m = λ same. absurd (let level : depth ups k ≡ depth ups m = ap (depth ups) same in omega arith) in
      let now : depth after k ≡ depth after n + 1 = just_deeper after k n (up_other k away ∙ up) (low k) in
      fits_from low room k (omega arith) (omega arith)))

  then_fits : all_shallow after ≡ true → fits_levels (200 - depth ups p) kids m ≡ true
  then_fits all =
      let low : (n : ℕ) → depth after n ≤ 200 = shallow_at after all in
      let top : depth after m ≡ depth after p + 1 = just_deeper after m p up_here (low m) in
      fits_from low (200 - depth ups p) m (omega arith) (omega (arith, depth_there, shallow p))

  -- the depth there and the height of what is moved
  pub all_shallow_is : all_shallow after ≡ fits_levels (200 - depth ups p) kids m
  all_shallow_is = iff_same (all_shallow after) (fits_levels (200 - depth ups p) kids m) then_fits then_all

-- ---- over the nodes of a document
abbrev pub under : List Node → List (List ℕ)
under nodes = below (shadows_of nodes) (kids_lists nodes)

module _ (nodes : List Node) where
  same_lengths : length (shadows_of nodes) ≡ length (kids_lists nodes)
  same_lengths = length-map nodes (λ n. n.shadow) ∙ sym (length-map nodes (λ n. n.kids.items))

  levels_under : (levels n : ℕ) → 0 < levels → fits_levels levels (under nodes) n ≡ list_all (fits_levels (levels - 1) (under nodes)) (below_of (shadows_of nodes) (kids_lists nodes) n)
  levels_under levels n some = levels_some levels (under nodes) n some ∙ ap (list_all (fits_levels (levels - 1) (under nodes))) (kids_of-below (shadows_of nodes) (kids_lists nodes) same_lengths n)

  -- a child for which there is no room
  pub no_room : (levels n i k : ℕ) → 0 < levels → i < length (kids_of (kids_lists nodes) n) → k ≡ get_or (kids_of (kids_lists nodes) n) i k → fits_levels (levels - 1) (under nodes) k ≡ false → fits_levels levels (under nodes) n ≡ false
  no_room levels n i k some within is none =
      let test = fits_levels (levels - 1) (under nodes) in
      let kids = kids_of (kids_lists nodes) n in
      levels_under levels n some ∙ list_all-append test (only (shadow_of (shadows_of nodes) n)) kids ∙ and_false (list_all test (only (shadow_of (shadows_of nodes) n))) (list_all test kids) (list_all_at test kids i k within (ap test (sym is) ∙ none))

  -- once there is room for the children, it depends on the shadow root
  room_left : (levels n : ℕ) → 0 < levels → list_all (fits_levels (levels - 1) (under nodes)) (kids_of (kids_lists nodes) n) ≡ true → (o : Option ℕ) → o ≡ shadow_of (shadows_of nodes) n
      → list_all (fits_levels (levels - 1) (under nodes)) (only o) ≡ fits_levels levels (under nodes) n
  room_left levels n some all o is =
      let test = fits_levels (levels - 1) (under nodes) in
      let kids = kids_of (kids_lists nodes) n in
      ap (λ r. list_all test (only r)) is ∙ sym (levels_under levels n some ∙ list_all-append test (only (shadow_of (shadows_of nodes) n)) kids ∙ and_true (list_all test (only (shadow_of (shadows_of nodes) n))) (list_all test kids) all)

  pub root_left : (levels n : ℕ) → 0 < levels → list_all (fits_levels (levels - 1) (under nodes)) (kids_of (kids_lists nodes) n) ≡ true → (r : ℕ) → Some r ≡ shadow_of (shadows_of nodes) n
      → fits_levels (levels - 1) (under nodes) r ≡ fits_levels levels (under nodes) n
  root_left levels n some all r is = sym (and_true (fits_levels (levels - 1) (under nodes) r) true refl) ∙ room_left levels n some all (Some r) is

  pub none_left : (levels n : ℕ) → 0 < levels → list_all (fits_levels (levels - 1) (under nodes)) (kids_of (kids_lists nodes) n) ≡ true → None ≡ shadow_of (shadows_of nodes) n → true ≡ fits_levels levels (under nodes) n
  none_left levels n some all is = room_left levels n some all None is

  -- the same in the words of the whole document
  pub shallow_after : (m p : ℕ) → IsTree (rows_of nodes) → m < length nodes → contains m (lineage (ups_of nodes) p) ≡ false → (deep room : ℕ) → deep ≡ depth (ups_of nodes) p → room ≡ 200 - deep
      → fits_levels room (under nodes) m ≡ all_shallow (set (ups_of nodes) m (Some p))
  shallow_after m p tree within apart deep room deep_is room_is =
      let there : m < length (ups_of nodes) = omega (arith, length-map nodes (λ n. n.up)) in
      ap (λ levels. fits_levels levels (under nodes) m) (room_is ∙ ap (λ d. 200 - d) deep_is)
      ∙ sym (all_shallow_is (ups_of nodes) (under nodes) (each_below (ups_of nodes) (shadows_of nodes) (kids_lists nodes) same_lengths tree.each tree.host) tree.shallow m p there apart)
