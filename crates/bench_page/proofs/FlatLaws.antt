-- The page that is timed keeps the rules.
use Rattle.std.proofs.Common.{◌≡◌, ℕ, zero, suc, ◌+◌, ◌≤◌, ◌<◌, Bool, true, List, [], ◌∷◌, ◌++◌, Option, Some, None, length, map, take, refl, sym, ap, ◌∙◌, subst, arith, ◌⊎◌, inl, inr, pos, rules}
use Rattle.std.specs.Prelude.{◌&&◌, nat_le, slice_get}
use Rattle.std.specs.List.{list_all, range_with_len}
use Rattle.page_tree.specs.Places.{all_shallow, chain, depth, onwards, up_of}
use Rattle.page_tree.proofs.Chains.{chain-suc}
use Rattle.page_engine.specs.Fitting.{timed, fits_at}
use Rattle.page_engine.specs.declared.effect.Effect.{the_lemmas}
use Rattle.page_engine.specs.declared.effect.Effect.TheVariants.{Layer}
use Rattle.page_engine.specs.Nodes.{is_node, AreNodes}
use Rattle.page_engine.specs.Pages.{IsLawfulPage, is_timer}
use Rattle.page_engine.specs.declared.page_def.NodeDef.{NodeDef}
use Rattle.page_engine.specs.declared.page_def.PageDef.{PageDef}
use Rattle.bench_page.specs.Flat.{repeated, a_root, a_field, a_timer, flat_page}

module _ {X : Type 0} where
  length-repeated : (n : ℕ) (x : X) → length (repeated n x) ≡ n
  length-repeated zero x = refl
  length-repeated (suc n) x = ap suc (length-repeated n x)

  pub repeated_more : (n : ℕ) (x : X) → repeated n x ++ x ∷ [] ≡ repeated (n + 1) x
  repeated_more zero x = refl
  repeated_more (suc n) x = let e : suc n + 1 ≡ suc (n + 1) = omega arith in rw e (ap (λ xs. x ∷ xs) (repeated_more n x))

  some_same : (x y : X) → Some x ≡ Some y → x ≡ y
  some_same x y e = cc

  one_of : (n k : ℕ) (x d : X) → slice_get (repeated n x) k ≡ Some d → x ≡ d
  one_of zero k x d is = absurd (let f : None ≡ Some d = is in cc)
  one_of (suc n) zero x d is = some_same x d is
  one_of (suc n) (suc k) x d is = one_of n k x d is

  all_of : (test : X → Bool) → ((x : X) → test x ≡ true) → (xs : List X) → list_all test xs ≡ true
  all_of test passes [] = refl
  all_of test passes (x ∷ xs) = ap (λ b. b && list_all test xs) (passes x) ∙ all_of test passes xs

each : (n k : ℕ) (d : NodeDef) → slice_get (a_root ∷ repeated n a_field) k ≡ Some d → is_node (take k (a_root ∷ repeated n a_field)) d ≡ true
each n zero d is = ap (is_node []) (sym (some_same a_root d is))
each n (suc k) d is = ap (is_node (a_root ∷ take k (repeated n a_field))) (sym (one_of n k a_field d is))

abbrev ups : ℕ → List (Option ℕ)
ups n = map (λ (d : NodeDef). d.up) (a_root ∷ repeated n a_field)

own_up : (n k : ℕ) → (up_of (map (λ (d : NodeDef). d.up) (repeated n a_field)) k ≡ None) ⊎ (up_of (map (λ (d : NodeDef). d.up) (repeated n a_field)) k ≡ Some 0)
own_up zero k = inl refl
own_up (suc n) zero = inr refl
own_up (suc n) (suc k) = own_up n k

deep : (us : List (Option ℕ)) (o : Option ℕ) (k : ℕ) → up_of us 0 ≡ None → (o ≡ None) ⊎ (o ≡ Some 0) → nat_le (length (k ∷ onwards (chain 199 us) o)) 200 ≡ true
deep us o k top (inl is) = ap (λ p. nat_le (length (k ∷ onwards (chain 199 us) p)) 200) is
deep us o k top (inr is) =
    ap (λ p. nat_le (length (k ∷ onwards (chain 199 us) p)) 200) is
    ∙ ap (λ xs. nat_le (length (k ∷ xs)) 200) (chain-suc 198 us 0 ∙ ap (λ p. 0 ∷ onwards (chain 198 us) p) top)

shallow_at : (n k : ℕ) → nat_le (depth (ups n) k) 200 ≡ true
shallow_at n zero = ap (λ xs. nat_le (length xs) 200) (chain-suc 199 (ups n) 0) ∙ deep (ups n) None 0 refl (inl refl)
shallow_at n (suc k) = ap (λ xs. nat_le (length xs) 200) (chain-suc 199 (ups n) (suc k)) ∙ deep (ups n) (up_of (map (λ (d : NodeDef). d.up) (repeated n a_field)) k) (suc k) refl (own_up n k)

shallow : (n : ℕ) → all_shallow (ups n) ≡ true
shallow n = all_of (λ k. nat_le (depth (ups n) k) 200) (shallow_at n) (range_with_len 0 (length (ups n)))

layer_fits : fits_at (Layer 1 (pos 2)) timed ≡ true
layer_fits = search (rules, the_lemmas)

timer_fits : is_timer a_timer ≡ true
timer_fits = rw layer_fits refl

timers : (n : ℕ) → list_all is_timer (repeated n a_timer) ≡ true
timers zero = refl
timers (suc n) = ap (λ b. b && list_all is_timer (repeated n a_timer)) timer_fits ∙ timers n

flat_nodes : (n : ℕ) → n < 50000 → AreNodes (a_root ∷ repeated n a_field)
flat_nodes n few = record { few = omega (arith, few, length-repeated n a_field); root = refl; each = each n; shallow = shallow n }

pub flat_lawful : (page : PageDef) (n m : ℕ) → page ≡ flat_page n m → n < 50000 → m ≤ 1000 → IsLawfulPage page
flat_lawful page n m is few rare =
    let all : IsLawfulPage (flat_page n m) = record { nodes = flat_nodes n few; few_timers = omega (arith, rare, length-repeated m a_timer); timers = timers m; book = refl; eager = omega arith; load = omega arith } in
    subst IsLawfulPage (sym is) all
