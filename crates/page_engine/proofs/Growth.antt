-- The rows of a page with one node more.
use Rattle.std.proofs.Common.{◌≡◌, ◌≢◌, ℕ, suc, ◌+◌, ◌<◌, ◌≤◌, Bool, true, false, not, List, [], ◌∷◌, ◌++◌, Some, None, length, map, set, get_or, drop, eqb, refl, sym, ap, ◌∙◌, arith, inl, inr}
use Rattle.std.specs.Prelude.{if◌then◌else◌}
use Rattle.std.proofs.lemmas.Bool.{cases_eq}
use Rattle.std.proofs.lemmas.List.{same_lists, length-set, get_or-set_same, get_or-set_other, set-append_left, take_all, drop_all}
use Rattle.std.proofs.lemmas.List.FromFn.{map-range_with_len_more, length-map-range_with_len, get_or-map-range_with_len}
use Rattle.page_tree.specs.Places.{without, put_among}
use Rattle.page_engine.specs.Opening.{for_each, numbers_where}
use Rattle.page_engine.specs.declared.page_def.NodeDef.{NodeDef}

-- ---- lists by number
module _ {X : Type 0} where
  pub for_each-more : (f : ℕ → X) (n : ℕ) → for_each f (n + 1) ≡ for_each f n ++ f n ∷ []
  for_each-more f n = map-range_with_len_more f 0 n n (omega arith)

  pub length-for_each : (f : ℕ → X) (n : ℕ) → length (for_each f n) ≡ n
  length-for_each f n = length-map-range_with_len f 0 n

  pub at_number : (f : ℕ → X) (n k : ℕ) (d : X) → k < n → get_or (for_each f n) k d ≡ f k
  at_number f n k d within = get_or-map-range_with_len f 0 n k k d within (omega arith)

  for_each-same : (f g : ℕ → X) (n : ℕ) → ((k : ℕ) → k < n → f k ≡ g k) → for_each f n ≡ for_each g n
  for_each-same f g n same =
      same_lists (for_each f n) (for_each g n) (length-for_each f n ∙ sym (length-for_each g n))
      (λ k d within. let small : k < n = omega (arith, length-for_each f n) in at_number f n k d small ∙ same k small ∙ sym (at_number g n k d small))

  pub pushed : (f g : ℕ → X) (n : ℕ) (e : X) → g n ≡ e → ((k : ℕ) → k < n → g k ≡ f k) → for_each f n ++ e ∷ [] ≡ for_each g (n + 1)
  pushed f g n e last same = ap (λ x. for_each f n ++ x ∷ []) (sym last) ∙ ap (λ xs. xs ++ g n ∷ []) (for_each-same f g n (λ k h. sym (same k h))) ∙ sym (for_each-more g n)

  set_number : (f g : ℕ → X) (n p : ℕ) (v : X) → p < n → g p ≡ v → ((k : ℕ) → k < n → k ≢ p → g k ≡ f k) → set (for_each f n) p v ≡ for_each g n
  set_number f g n p v within here other =
      same_lists (set (for_each f n) p v) (for_each g n) (length-set (for_each f n) p v ∙ length-for_each f n ∙ sym (length-for_each g n))
      (λ k d far. let small : k < n = omega (arith, length-for_each f n, length-set (for_each f n) p v) in
      elim (cases_eq k p) [
        | inl is ↦ ap (λ j. get_or (set (for_each f n) p v) j d) is ∙ get_or-set_same (for_each f n) p v d (omega (arith, length-for_each f n)) ∙ sym here ∙ ap g (sym is) ∙ sym (at_number g n k d small)
        | inr apart ↦ get_or-set_other (for_each f n) p k v d apart ∙ at_number f n k d small ∙ sym (other k small apart) ∙ sym (at_number g n k d small)
      ])

  pub set_pushed : (f g : ℕ → X) (n p : ℕ) (v e : X) → p < n → g p ≡ v → g n ≡ e → ((k : ℕ) → k < n → k ≢ p → g k ≡ f k) → set (for_each f n ++ e ∷ []) p v ≡ for_each g (n + 1)
  set_pushed f g n p v e within here last other =
      set-append_left (for_each f n) (e ∷ []) p v (omega (arith, length-for_each f n))
      ∙ ap (λ xs. xs ++ e ∷ []) (set_number f g n p v within here other)
      ∙ ap (λ x. for_each g n ++ x ∷ []) (sym last) ∙ sym (for_each-more g n)

  pub same_each : (h : X → X) (f : ℕ → X) (ns : List ℕ) → ((k : ℕ) → h (f k) ≡ f k) → map h (map f ns) ≡ map f ns
  same_each h f [] same = refl
  same_each h f (n ∷ ns) same = ap (λ x. x ∷ map h (map f ns)) (same n) ∙ ap (λ xs. f n ∷ xs) (same_each h f ns same)

-- ---- numbers of nodes
pub numbers-append : (test : NodeDef → Bool) (n : ℕ) (xs : List NodeDef) (d : NodeDef) → numbers_where test n (xs ++ d ∷ []) ≡ numbers_where test n xs ++ (if test d then (n + length xs) ∷ [] else [])
numbers-append test n [] d = here (test d)
  where
    here : (b : Bool) → (if b then n ∷ [] else []) ≡ (if b then (n + 0) ∷ [] else [])
    here true = let e : n ≡ n + 0 = omega arith in ap (λ k. k ∷ []) e
    here false = refl
numbers-append test n (x ∷ xs) d =
    let last : (if test d then (suc n + length xs) ∷ [] else []) ≡ (if test d then (n + suc (length xs)) ∷ [] else []) = let e : suc n + length xs ≡ n + suc (length xs) = omega arith in ap (λ k. if test d then k ∷ [] else []) e in
    here _ (numbers_where test (suc n) xs) (if test d then (n + suc (length xs)) ∷ [] else []) (test x) (numbers-append test (suc n) xs d ∙ ap (λ t. numbers_where test (suc n) xs ++ t) last)
  where
    here : (a b c : List ℕ) (t : Bool) → a ≡ b ++ c → (if t then n ∷ a else a) ≡ (if t then n ∷ b else b) ++ c
    here a b c true e = ap (λ l. n ∷ l) e
    here a b c false e = e

-- none passes
pub numbers_none : (test : NodeDef → Bool) (p n : ℕ) (xs : List NodeDef) → ((d : NodeDef) → d.up ≢ Some p → test d ≡ false) → ((k : ℕ) → get_or (map (λ d. d.up) xs) k None ≢ Some p) → numbers_where test n xs ≡ []
numbers_none test p n [] skips apart = refl
numbers_none test p n (x ∷ xs) skips apart =
    ap (λ b. if b then n ∷ numbers_where test (suc n) xs else numbers_where test (suc n) xs) (skips x (apart 0))
    ∙ numbers_none test p (suc n) xs skips (λ k. apart (suc k))

-- all are below the end
pub numbers_others : (test : NodeDef → Bool) (n m : ℕ) (xs : List NodeDef) → n + length xs ≤ m → without m (numbers_where test n xs) ≡ numbers_where test n xs
numbers_others test n m [] far = refl
numbers_others test n m (x ∷ xs) far = here (test x) (numbers_others test (suc n) m xs (omega arith))
  where
    apart : eqb n m ≡ false
    apart = grind arith

    here : (t : Bool) → without m (numbers_where test (suc n) xs) ≡ numbers_where test (suc n) xs → without m (if t then n ∷ numbers_where test (suc n) xs else numbers_where test (suc n) xs) ≡ (if t then n ∷ numbers_where test (suc n) xs else numbers_where test (suc n) xs)
    here true e = ap (λ b. if not b then n ∷ without m (numbers_where test (suc n) xs) else without m (numbers_where test (suc n) xs)) apart ∙ ap (λ l. n ∷ l) e
    here false e = e

pub numbers_few : (test : NodeDef → Bool) (n : ℕ) (xs : List NodeDef) → length (numbers_where test n xs) ≤ length xs
numbers_few test n [] = omega arith
numbers_few test n (x ∷ xs) = here (test x) (numbers_few test (suc n) xs)
  where
    here : (t : Bool) → length (numbers_where test (suc n) xs) ≤ length xs → length (if t then n ∷ numbers_where test (suc n) xs else numbers_where test (suc n) xs) ≤ suc (length xs)
    here true e = omega (arith, e)
    here false e = omega (arith, e)

pub put_last : (m place : ℕ) (xs : List ℕ) → length xs ≤ place → put_among place m xs ≡ xs ++ m ∷ []
put_last m place xs far = ap (λ t. t ++ m ∷ drop place xs) (take_all place xs far) ∙ ap (λ t. xs ++ m ∷ t) (drop_all place xs far)
