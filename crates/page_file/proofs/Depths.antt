-- How deep the nodes of a page stand, each by the ones before it.
use Rattle.std.proofs.Common.{◌≡◌, ℕ, zero, suc, ◌+◌, ◌<◌, ◌≤◌, Bool, true, false, ◌&&◌, not, List, [], ◌∷◌, ◌++◌, Option, Some, None, length, take, map, refl, sym, ap, ◌∙◌, arith, tests, le_refl}
use Rattle.std.specs.Prelude.{slice_get, nat_lt, nat_le}
use Rattle.std.proofs.lemmas.List.{get_or_past, get_or-map, get_or-take, get_or_append_left, take_more, take-map, length-take-le}
use Rattle.std.proofs.lemmas.Option.{slice_get_within, get_or_from_slice_get}
use Rattle.std.specs.List.{list_all, list_any, range_with_len}
use Rattle.page_engine.specs.Nodes.{is_node, is_host, is_parent, is_shadow_of, may_stand, has_fields}
use Rattle.page_engine.specs.declared.page_def.NodeDef.{NodeDef}
use Rattle.page_engine.specs.declared.page_def.NodeKind.{NodeKind}
use Rattle.page_engine.specs.declared.page_def.NodeKind.TheVariants.{Element, Chars, Shadow}
use Rattle.page_file.proofs.Tests.{first_of}
use Rattle.page_file.specs.NodeRows.{depth_after, is_deep}
use Rattle.page_tree.proofs.Chains.{chain-suc, chain-zero}
use Rattle.page_tree.specs.Places.{up_of, onwards, chain, depth, max_depth, all_shallow}

abbrev pub ups : List NodeDef → List (Option ℕ)
ups defs = map (λ d. d.up) defs

pub length-ups : (defs : List NodeDef) → length (ups defs) ≡ length defs
length-ups [] = refl
length-ups (d ∷ ds) = ap suc (length-ups ds)

-- ---- nodes stand under earlier ones

parent_within : (earlier : List NodeDef) (q : ℕ) (o : Option NodeDef) → slice_get earlier q ≡ o → is_parent o ≡ true → q < length earlier
parent_within earlier q None e h = cc
parent_within earlier q (Some d) e h = slice_get_within earlier q d e

host_within : (earlier : List NodeDef) (q : ℕ) (o : Option NodeDef) → slice_get earlier q ≡ o → is_host o ≡ true → q < length earlier
host_within earlier q None e h = cc
host_within earlier q (Some d) e h = slice_get_within earlier q d e

stands_within : (earlier : List NodeDef) (kind : NodeKind) (q : ℕ) → may_stand earlier kind (Some q) ≡ true → q < length earlier
stands_within earlier (Element tag) q h = parent_within earlier q (slice_get earlier q) refl h
stands_within earlier (Chars text) q h = parent_within earlier q (slice_get earlier q) refl h
stands_within earlier Shadow q h = host_within earlier q (slice_get earlier q) refl (first_of (is_host (slice_get earlier q)) (not (list_any (is_shadow_of q) earlier)) h)

pub up_within : (earlier : List NodeDef) (d : NodeDef) (q : ℕ) → is_node earlier d ≡ true → d.up ≡ Some q → q < length earlier
up_within earlier d q h up = stands_within earlier d.kind q (ap (may_stand earlier d.kind) (sym up) ∙ first_of (may_stand earlier d.kind d.up) (has_fields d.kind d) h)

abbrev pub AreEarlier : List NodeDef → Type 0
AreEarlier defs = (n : ℕ) (d : NodeDef) → slice_get defs n ≡ Some d → is_node (take n defs) d ≡ true

pub up_of-ups : (defs : List NodeDef) (n : ℕ) (d : NodeDef) → slice_get defs n ≡ Some d → up_of (ups defs) n ≡ d.up
up_of-ups defs n d at =
    get_or-map (λ (d : NodeDef). d.up) defs n d None (slice_get_within defs n d at) ∙ ap (λ (d : NodeDef). d.up) (get_or_from_slice_get defs n d d at)

past_end : (defs : List NodeDef) (n : ℕ) → slice_get defs n ≡ None → length defs ≤ n
past_end [] n e = omega arith
past_end (d ∷ ds) zero e = cc
past_end (d ∷ ds) (suc n) e = omega (arith, past_end ds n e)

at_end : (defs : List NodeDef) (o : Option ℕ) → up_of (ups defs ++ o ∷ []) (length defs) ≡ o
at_end [] o = refl
at_end (d ∷ ds) o = at_end ds o

pub lower : (defs : List NodeDef) → AreEarlier defs → (n q : ℕ) → up_of (ups defs) n ≡ Some q → q < n
lower defs each n q up = at (slice_get defs n) refl
  where
    at : (o : Option NodeDef) → slice_get defs n ≡ o → q < n
    at None e =
        let past : length defs ≤ n = past_end defs n e in
        absurd (let none : None ≡ Some q = sym (get_or_past (ups defs) n None (omega (arith, length-ups defs))) ∙ up in cc)
    at (Some d) e =
        let within : n < length defs = slice_get_within defs n d e in
        let below : q < length (take n defs) = up_within (take n defs) d q (each n d e) (sym (up_of-ups defs n d e) ∙ up) in
        omega (arith, length-take-le n defs (omega arith))

-- ---- chains over parents that are lower

onwards_same : (f g : ℕ → List ℕ) (o u : Option ℕ) → o ≡ u → ((q : ℕ) → o ≡ Some q → f q ≡ g q) → onwards f o ≡ onwards g u
onwards_same f g None u e h = ap (onwards g) e
onwards_same f g (Some q) u e h = h q refl ∙ ap (onwards g) e

pub chain_same : (steps : ℕ) (us vs : List (Option ℕ)) (n : ℕ) → ((k q : ℕ) → k ≤ n → up_of us k ≡ Some q → q < k) → ((k : ℕ) → k ≤ n → up_of us k ≡ up_of vs k)
    → chain steps us n ≡ chain steps vs n
chain_same zero us vs n low agree = chain-zero us n ∙ sym (chain-zero vs n)
chain_same (suc steps) us vs n low agree =
    chain-suc steps us n
    ∙ ap (λ xs. n ∷ xs) (onwards_same (chain steps us) (chain steps vs) (up_of us n) (up_of vs n) (agree n (le_refl n))
    (λ q up. let below : q < n = low n q (le_refl n) up in
    chain_same steps us vs q (λ k r le at. low k r (omega arith) at) (λ k le. agree k (omega arith))))
    ∙ sym (chain-suc steps vs n)

onwards_ends : (f g : ℕ → List ℕ) (o : Option ℕ) (most : ℕ) → length (onwards g o) ≤ most → ((q : ℕ) → length (g q) ≤ most → length (f q) ≡ length (g q))
    → length (onwards f o) ≡ length (onwards g o)
onwards_ends f g None most h k = refl
onwards_ends f g (Some q) most h k = k q h

chain_some : (steps : ℕ) (us : List (Option ℕ)) (n : ℕ) → 1 ≤ length (chain steps us n)
chain_some zero us n = omega (arith, ap length (chain-zero us n))
chain_some (suc steps) us n = omega (arith, ap length (chain-suc steps us n))

-- a chain that is no longer than its steps has ended one step before
pub chain_ends : (steps : ℕ) (us : List (Option ℕ)) (n : ℕ) → length (chain (suc steps) us n) ≤ suc steps → length (chain steps us n) ≡ length (chain (suc steps) us n)
chain_ends zero us n h = omega (arith, ap length (chain-zero us n), chain_some 1 us n)
chain_ends (suc steps) us n h =
    let inner = ap length (chain-suc (suc steps) us n) in
    let outer = ap length (chain-suc steps us n) in
    let short : length (onwards (chain (suc steps) us) (up_of us n)) ≤ suc steps = omega (arith, inner) in
    let same = onwards_ends (chain steps us) (chain (suc steps) us) (up_of us n) (suc steps) short (λ q. chain_ends steps us q) in
    omega (arith, inner, outer, same)

-- ---- the depth of a node by those before it

pushed : (defs : List NodeDef) (n : ℕ) (d : NodeDef) → slice_get defs n ≡ Some d → ups (take n defs) ++ d.up ∷ [] ≡ take (n + 1) (ups defs)
pushed defs n d at =
    let within : n < length defs = slice_get_within defs n d at in
    let wide : n < length (ups defs) = omega (arith, length-ups defs) in
    ap (λ xs. xs ++ d.up ∷ []) (sym (take-map (λ (d : NodeDef). d.up) n defs))
    ∙ ap (λ (o : Option ℕ). take n (ups defs) ++ o ∷ []) (sym (up_of-ups defs n d at))
    ∙ sym (take_more (ups defs) n None wide)

pub depth_prefix : (defs : List NodeDef) → AreEarlier defs → (n : ℕ) (d : NodeDef) → slice_get defs n ≡ Some d → depth_after (take n defs) d.up ≡ depth (ups defs) n
depth_prefix defs each n d at =
    let within : n < length defs = slice_get_within defs n d at in
    ap (λ us. depth us (length (take n defs))) (pushed defs n d at)
    ∙ ap (depth (take (n + 1) (ups defs))) (length-take-le n defs (omega arith))
    ∙ sym (ap length (chain_same 200 (ups defs) (take (n + 1) (ups defs)) n (λ k q le up. lower defs each k q up)
    (λ k le. sym (get_or-take (n + 1) (ups defs) k None (omega arith)))))

pub depth_top : (defs : List NodeDef) → depth_after defs None ≡ 1
depth_top defs =
    let us = ups defs ++ None ∷ [] in
    let here : up_of us (length defs) ≡ None = at_end defs None in
    ap length (chain-suc 199 us (length defs)) ∙ ap (λ o. length (length defs ∷ onwards (chain 199 us) o)) here

pub depth_under : (defs : List NodeDef) → AreEarlier defs → (p : ℕ) (d : NodeDef) → slice_get defs p ≡ Some d → is_deep (take p defs) d ≡ false
    → depth_after defs (Some p) ≡ depth_after (take p defs) d.up + 1
depth_under defs each p d at shallow =
    let within : p < length defs = slice_get_within defs p d at in
    let us = ups defs ++ Some p ∷ [] in
    let here : up_of us (length defs) ≡ Some p = at_end defs (Some p) in
    let wide : length (ups defs) ≡ length defs = length-ups defs in
    let step : depth_after defs (Some p) ≡ suc (length (chain 199 us p)) = ap length (chain-suc 199 us (length defs) ∙ ap (λ o. length defs ∷ onwards (chain 199 us) o) here) in
    let same : chain 199 (ups defs) p ≡ chain 199 us p = chain_same 199 (ups defs) us p (λ k q le up. lower defs each k q up)
    (λ k le. sym (get_or_append_left (ups defs) (Some p ∷ []) None k (omega arith))) in
    let prefix : depth_after (take p defs) d.up ≡ depth (ups defs) p = depth_prefix defs each p d at in
    let low : depth_after (take p defs) d.up ≤ 200 = not_deep (depth_after (take p defs) d.up) shallow in
    let ends : length (chain 199 (ups defs) p) ≡ length (chain 200 (ups defs) p) = chain_ends 199 (ups defs) p (omega arith) in
    omega (arith, step, ap length same, prefix, ends)
  where
    not_deep : (n : ℕ) → nat_lt max_depth n ≡ false → n ≤ 200
    not_deep n h = grind (arith, tests)

-- ---- all of them

all_in_range : (test : ℕ → Bool) (a n : ℕ) → ((k : ℕ) → a ≤ k → k < a + n → test k ≡ true) → list_all test (range_with_len a n) ≡ true
all_in_range test a zero h = refl
all_in_range test a (suc n) h = ap (λ b. b && list_all test (range_with_len (a + 1) n)) (h a (le_refl a) (omega arith)) ∙ all_in_range test (a + 1) n (λ k le lt. h k (omega arith) (omega arith))

pub shallow_all : (defs : List NodeDef) → AreEarlier defs → ((n : ℕ) (d : NodeDef) → slice_get defs n ≡ Some d → is_deep (take n defs) d ≡ false) → all_shallow (ups defs) ≡ true
shallow_all defs each low = all_in_range (λ n. nat_le (depth (ups defs) n) max_depth) 0 (length (ups defs)) (λ n le lt. at n (slice_get defs n) refl (omega (arith, length-ups defs)))
  where
    le_of : (m n : ℕ) → m ≡ n → nat_lt max_depth m ≡ false → nat_le n max_depth ≡ true
    le_of m n e h = grind (arith, tests)

    at : (n : ℕ) (o : Option NodeDef) → slice_get defs n ≡ o → n < length defs → nat_le (depth (ups defs) n) max_depth ≡ true
    at n None e within = absurd (omega (arith, past_end defs n e))
    at n (Some d) e within = le_of (depth_after (take n defs) d.up) (depth (ups defs) n) (depth_prefix defs each n d e) (low n d e)

-- the node at a place that is there
pub found_at : (defs : List NodeDef) (n : ℕ) → n < length defs → (d : NodeDef) × (slice_get defs n ≡ Some d)
found_at [] n h = absurd (omega arith)
found_at (d ∷ ds) zero h = (d, refl)
found_at (d ∷ ds) (suc n) h = found_at ds n (omega arith)
