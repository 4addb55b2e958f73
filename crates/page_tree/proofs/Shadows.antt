-- The two trees of a document with shadow roots: each node's own tree, and all of them joined at the hosts.
use Rattle.std.proofs.Common.{◌≡◌, ◌≢◌, ℕ, zero, suc, ◌+◌, ◌≤◌, Bool, true, false, cond, List, [], ◌++◌, Option, Some, None, length, eqb, eq-eqb, refl, sym, ap, ◌∙◌, arith, inl, inr, ◌⊎◌}
use Rattle.std.proofs.lemmas.Bool.{cases_eq, cases_lt}
use Rattle.std.proofs.lemmas.List.{get_or_past}
use Rattle.std.proofs.lemmas.List.FromFn.{get_or-map-range_with_len, length-map-range_with_len}
use Rattle.page_tree.specs.Places.{up_of, kids_of, shadow_of, times, points_to, onwards, chain, is_root_of, is_hosted, own_up, own_ups, only, below_of, below}
use Rattle.page_tree.proofs.Chains.{chain-suc, chain-zero}
use Rattle.page_tree.proofs.Counts.{times-append}

pub length-own_ups : (ups shadows : List (Option ℕ)) → length (own_ups ups shadows) ≡ length ups
length-own_ups ups shadows = length-map-range_with_len (own_up ups shadows) 0 (length ups)

own_up_past : (shadows : List (Option ℕ)) (n : ℕ) (o : Option ℕ) → o ≡ None → cond (is_root_of shadows n o) None o ≡ None
own_up_past shadows n None h = refl
own_up_past shadows n (Some p) h = cc

pub up_of-own_ups : (ups shadows : List (Option ℕ)) (n : ℕ) → up_of (own_ups ups shadows) n ≡ own_up ups shadows n
up_of-own_ups ups shadows n = elim (cases_lt n (length ups)) [
  | inl within ↦ get_or-map-range_with_len (own_up ups shadows) 0 (length ups) n n None within (omega arith)
  | inr past ↦ get_or_past (own_ups ups shadows) n None (omega (arith, length-own_ups ups shadows)) ∙ sym (own_up_past shadows n (up_of ups n) (get_or_past ups n None past))
]

pub length-below : (shadows : List (Option ℕ)) (kids : List (List ℕ)) → length (below shadows kids) ≡ length kids
length-below shadows kids = length-map-range_with_len (below_of shadows kids) 0 (length kids)

pub kids_of-below : (shadows : List (Option ℕ)) (kids : List (List ℕ)) → length shadows ≡ length kids → (n : ℕ) → kids_of (below shadows kids) n ≡ below_of shadows kids n
kids_of-below shadows kids same n = elim (cases_lt n (length kids)) [
  | inl within ↦ get_or-map-range_with_len (below_of shadows kids) 0 (length kids) n n [] within (omega arith)
  | inr past ↦
      let far : length (below shadows kids) ≤ n = omega (arith, length-below shadows kids) in
      let none : shadow_of shadows n ≡ None = get_or_past shadows n None (omega arith) in
      get_or_past (below shadows kids) n [] far ∙ sym (ap (λ o. only o ++ kids_of kids n) none ∙ get_or_past kids n [] past)
]

-- ---- what stands under a node, counted

pub other_parent : (p q : ℕ) (b : Bool) → q ≢ p → points_to p (cond b None (Some q)) ≡ false
other_parent p q true apart = refl
other_parent p q false apart = grind (arith, apart)

this_parent : (p m : ℕ) (s : Option ℕ) → times m (only s) + cond (points_to p (cond (points_to m s) None (Some p))) 1 0 ≡ 1
this_parent p m None = rw (eq-eqb p p refl) (omega arith)
this_parent p m (Some r) = at (eqb r m)
  where
    at : (b : Bool) → cond b 1 0 + 0 + cond (points_to p (cond b None (Some p))) 1 0 ≡ 1
    at true = omega arith
    at false = rw (eq-eqb p p refl) (omega arith)

not_here : (p m : ℕ) (o s : Option ℕ) → (s ≡ Some m → o ≡ Some p) → points_to p o ≡ false → times m (only s) ≡ 0
not_here p m o None h away = refl
not_here p m o (Some r) h away = elim (cases_eq r m) [
  | inl same ↦ absurd (let e : false ≡ true = sym away ∙ ap (points_to p) (h (ap Some same)) ∙ eq-eqb p p refl in cc)
  | inr apart ↦ grind (arith, apart)
]

under : (shadows : List (Option ℕ)) (p m : ℕ) (o : Option ℕ) → (shadow_of shadows p ≡ Some m → o ≡ Some p)
    → times m (only (shadow_of shadows p)) + cond (points_to p (cond (is_root_of shadows m o) None o)) 1 0 ≡ cond (points_to p o) 1 0
under shadows p m None h = omega (arith, not_here p m None (shadow_of shadows p) h refl)
under shadows p m (Some q) h = elim (cases_eq q p) [
  | inl same ↦ rw (same, eq-eqb p p refl) (this_parent p m (shadow_of shadows p))
  | inr apart ↦
      let away : eqb q p ≡ false = grind (arith, apart) in
      let none : times m (only (shadow_of shadows p)) ≡ 0 = not_here p m (Some q) (shadow_of shadows p) h away in
      rw (none, other_parent p q (points_to m (shadow_of shadows q)) apart, away) (omega arith)
]

-- a node stands once under its parent, through hosts, and nowhere else
pub each_below : (ups shadows : List (Option ℕ)) (kids : List (List ℕ)) → length shadows ≡ length kids
    → ((p m : ℕ) → times m (kids_of kids p) ≡ cond (points_to p (own_up ups shadows m)) 1 0)
    → ((p m : ℕ) → shadow_of shadows p ≡ Some m → up_of ups m ≡ Some p)
    → (p m : ℕ) → times m (kids_of (below shadows kids) p) ≡ cond (points_to p (up_of ups m)) 1 0
each_below ups shadows kids same each host p m =
    ap (times m) (kids_of-below shadows kids same p) ∙ times-append m (only (shadow_of shadows p)) (kids_of kids p)
    ∙ ap (λ n. times m (only (shadow_of shadows p)) + n) (each p m) ∙ under shadows p m (up_of ups m) (host p m)

pub each_own : (ups shadows : List (Option ℕ)) (kids : List (List ℕ)) → ((p m : ℕ) → times m (kids_of kids p) ≡ cond (points_to p (own_up ups shadows m)) 1 0)
    → (p m : ℕ) → times m (kids_of kids p) ≡ cond (points_to p (up_of (own_ups ups shadows) m)) 1 0
each_own ups shadows kids each p m = each p m ∙ ap (λ o. cond (points_to p o) 1 0) (sym (up_of-own_ups ups shadows m))

-- ---- fewer parents make shorter chains

onwards_shorter : (f g : ℕ → List ℕ) (o : Option ℕ) → ((p : ℕ) → length (f p) ≤ length (g p)) → length (onwards f o) ≤ length (onwards g o)
onwards_shorter f g None h = omega arith
onwards_shorter f g (Some p) h = h p

onwards_cut : (f g : ℕ → List ℕ) (o u : Option ℕ) → (o ≡ None) ⊎ (o ≡ u) → ((p : ℕ) → length (f p) ≤ length (g p)) → length (onwards f o) ≤ length (onwards g u)
onwards_cut f g o u (inl none) h = rw none (omega arith)
onwards_cut f g o u (inr same) h = rw same (onwards_shorter f g u h)

pub chain_cut : (steps : ℕ) (ups vps : List (Option ℕ)) → ((n : ℕ) → (up_of vps n ≡ None) ⊎ (up_of vps n ≡ up_of ups n)) → (n : ℕ) → length (chain steps vps n) ≤ length (chain steps ups n)
chain_cut zero ups vps cut n = rw (chain-zero, chain-zero) (omega arith)
chain_cut (suc steps) ups vps cut n =
    rw (chain-suc steps vps n, chain-suc steps ups n) (omega (arith, onwards_cut (chain steps vps) (chain steps ups) (up_of vps n) (up_of ups n) (cut n) (chain_cut steps ups vps cut)))

own_up_cut : (b : Bool) (o : Option ℕ) → (cond b None o ≡ None) ⊎ (cond b None o ≡ o)
own_up_cut true o = inl refl
own_up_cut false o = inr refl

pub shallow_own : (ups shadows : List (Option ℕ)) → ((n : ℕ) → length (chain 200 ups n) ≤ 200) → (n : ℕ) → length (chain 200 (own_ups ups shadows) n) ≤ 200
shallow_own ups shadows shallow n =
    omega (arith, shallow n, chain_cut 200 ups (own_ups ups shadows) (λ k. rw (up_of-own_ups ups shadows k) (own_up_cut (is_hosted ups shadows k) (up_of ups k))) n)
