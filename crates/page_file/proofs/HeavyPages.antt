-- How heavy pages are: a frame more, a level more, and the first page that is too heavy.
use Rattle.std.proofs.Common.{◌≡◌, ℕ, suc, ◌+◌, ◌<◌, ◌≤◌, Bool, cond, List, All, [], ◌∷◌, ◌++◌, Option, Some, None, length, take, replicate, get_or, map, refl, sym, ap, ◌∙◌, arith}
use Rattle.std.specs.Prelude.{min, not, nat_lt, nat_le, slice_get}
use Rattle.std.specs.List.{sum, sum_by, position, position_or_len}
use Rattle.std.specs.Option.{option_map}
use Rattle.std.proofs.lemmas.Bool.Decides.{nat_tests}
use Rattle.std.proofs.lemmas.List.{take_more, get_or-replicate, length-replicate}
use Rattle.std.proofs.lemmas.List.Sums.{sum-map, sum_by-append}
use Rattle.std.proofs.lemmas.Option.{slice_get-map}
use Rattle.page_engine.specs.Links.{weight, weight_at, weight_here, frames, frame_target}
use Rattle.page_engine.specs.declared.page_def.PageDef.{PageDef}
use Rattle.page_engine.specs.declared.target.Target.{Target}
use Rattle.page_engine.specs.declared.target.Target.TheVariants.{Blank, Page}
use Rattle.page_file.proofs.EachOf.{parts}
use Rattle.page_file.proofs.Tests.{some_is}
use Rattle.page_file.specs.Members.{each_of}
use Rattle.page_file.specs.Weighing.{capped, or_blank, frame_load, page_load, weights, IsLoadOf, AreLoadsFrom, AreLoadsOf, is_heavy}
use Rattle.page_file.specs.declared.load.Load.{Load}

module _ {X : Type 0} (f : X → ℕ) where
  sum_cons : (x : X) (xs : List X) → sum_by f (x ∷ xs) ≡ f x + sum_by f xs
  sum_cons x xs =
      let joined : sum_by f (x ∷ xs) ≡ 0 + f x + sum_by f xs = sum_by-append f (x ∷ []) xs in
      omega arith

  -- one item more in a sum
  pub sum_more : (xs : List X) (i : ℕ) (d : X) → i < length xs → sum (map f (take (i + 1) xs)) ≡ sum (map f (take i xs)) + f (get_or xs i d)
  sum_more xs i d within =
      let whole = sum-map f (take (i + 1) xs) in
      let before = sum-map f (take i xs) in
      let more : sum_by f (take (i + 1) xs) ≡ sum_by f (take i xs ++ get_or xs i d ∷ []) = ap (sum_by f) (take_more xs i d within) in
      let joined : sum_by f (take i xs ++ get_or xs i d ∷ []) ≡ sum_by f (take i xs) + (0 + f (get_or xs i d)) = sum_by-append f (take i xs) (get_or xs i d ∷ []) in
      omega arith

-- counting goes on from what was counted up to the limit
pub capped_more : (n a b : ℕ) → min (min (n + a) 100001 + b) 100001 ≡ min (n + (a + b)) 100001
capped_more n a b = first_of (omega arith, grind arith)

capped_inside : (n a b : ℕ) → min (n + (min a 100001 + b)) 100001 ≡ min (n + a + b) 100001
capped_inside n a b = first_of (omega arith, grind arith)

-- where each item counts as much, up to the limit
module _ {A B : Type 0} (read : A → Option B) (f : B → ℕ) (g : A → ℕ) (same : (x : A) (y : B) → read x ≡ Some y → f y ≡ min (g x) 100001) where
  sums : (n : ℕ) (xs : List A) (ys : List B) → each_of read xs ≡ Some ys → min (n + sum_by f ys) 100001 ≡ min (n + sum_by g xs) 100001
  sums n [] ys e = ap (λ (zs : List B). min (n + sum_by f zs) 100001) (sym (some_is [] ys e))
  sums n (x ∷ xs) ys e =
      let p = parts read x xs ys e in
      let start : sum_by f ys ≡ min (g x) 100001 + sum_by f p.rest =
      ap (sum_by f) p.is_all ∙ sum_cons f p.first p.rest ∙ ap (λ k. k + sum_by f p.rest) (same x p.first p.is_first) in
      let end : n + g x + sum_by g xs ≡ n + sum_by g (x ∷ xs) = omega (arith, sum_cons g x xs) in
      ap (λ k. min (n + k) 100001) start
      ∙ capped_inside n (g x) (sum_by f p.rest)
      ∙ sums (n + g x) xs p.rest p.is_rest
      ∙ ap (λ k. min k 100001) end

module _ (pages : List PageDef) (levels : ℕ) where
  known_at : (o : Option PageDef) → or_blank (option_map (λ page. capped (weight pages levels page)) o) ≡ capped (weight_here (weight pages levels) o)
  known_at None = refl
  known_at (Some page) = refl

  frame_is : (target : Target) → frame_load (weights pages levels) target ≡ capped (weight_at (weight pages levels) pages (Some target))
  frame_is Blank = refl
  frame_is (Page place) =
      ap or_blank (slice_get-map (λ page. capped (weight pages levels page)) pages place) ∙ known_at (slice_get pages place)

  frame_weight : PageDef → Option (List ℕ) → ℕ
  frame_weight page frame = weight_at (weight pages levels) pages (frame_target pages page.address frame)

  load_is : (page : PageDef) (load : Load) → IsLoadOf pages page load → page_load (weights pages levels) load ≡ capped (weight pages (suc levels) page)
  unfolding frame_weight
  load_is page load is =
      ap (λ s. capped (load.nodes + s)) (sum-map (frame_load (weights pages levels)) load.frames)
      ∙ ap (λ n. capped (n + sum_by (frame_load (weights pages levels)) load.frames)) is.nodes
      ∙ sums (frame_target pages page.address) (frame_load (weights pages levels)) (frame_weight page)
      (λ frame target leads. frame_is target ∙ ap (λ (o : Option Target). capped (weight_at (weight pages levels) pages o)) (sym leads))
      (length page.nodes) (frames page) load.frames is.frames.frames
      ∙ ap (λ s. capped (length page.nodes + s)) (sym (sum-map (frame_weight page) (frames page)))

  loads_are : (later : List PageDef) (loads : List Load) → AreLoadsFrom pages later loads → map (page_load (weights pages levels)) loads ≡ map (λ page. capped (weight pages (suc levels) page)) later
  loads_are [] [] are = refl
  loads_are (page ∷ later) (load ∷ loads) are =
      ap (λ n. n ∷ map (page_load (weights pages levels)) loads) (load_is page load are.0)
      ∙ ap (λ ns. capped (weight pages (suc levels) page) ∷ ns) (loads_are later loads are.1)
  loads_are [] (load ∷ loads) are = absurd are
  loads_are (page ∷ later) [] are = absurd are

-- a level more
pub weights_more : (pages : List PageDef) (levels : ℕ) (loads : List Load) (known : List ℕ) → AreLoadsOf pages loads → known ≡ weights pages levels → map (page_load known) loads ≡ weights pages (levels + 1)
weights_more pages levels loads known are same =
    let more : suc levels ≡ levels + 1 = omega arith in
    ap (λ (ws : List ℕ). map (page_load ws) loads) same ∙ loads_are pages levels pages loads are ∙ ap (weights pages) more

-- without a level each page is blank
pub weights_blank : (pages later : List PageDef) (loads : List Load) → AreLoadsFrom pages later loads → replicate (length loads) 3 ≡ map (λ page. capped (weight pages 0 page)) later
weights_blank pages [] [] are = refl
weights_blank pages (page ∷ later) (load ∷ loads) are = ap (λ ns. 3 ∷ ns) (weights_blank pages later loads are.1)
weights_blank pages [] (load ∷ loads) are = absurd are
weights_blank pages (page ∷ later) [] are = absurd are

few_same : (n y : ℕ) → y ≤ 100001 → All (λ k. k ≤ 100001) (replicate n y)
few_same n y few k d within =
    let count : length (replicate n y) ≡ n = length-replicate n y in
    let below : k < n = omega arith in
    let is : get_or (replicate n y) k d ≡ y = get_or-replicate n k y d below in
    omega arith

-- the weights of blank pages are counted
pub few_blank : (n : ℕ) → All (λ k. k ≤ 100001) (replicate n 3)
few_blank n = few_same n 3 (omega arith)

-- the first item is where the test of what it is read as passes first
module _ {X Y : Type 0} (p : Y → Bool) (q : X → Bool) (f : X → Y) (same : (x : X) → p (f x) ≡ q x) where
  place_map : (xs : List X) → position_or_len p (map f xs) ≡ position_or_len q xs
  place_map [] = refl
  place_map (x ∷ xs) =
      ap (λ (b : Bool). cond (not b) (1 + position_or_len p (map f xs)) 0) (same x)
      ∙ ap (λ (n : ℕ). cond (not (q x)) (1 + n) 0) (place_map xs)

  length_map : (xs : List X) → length (map f xs) ≡ length xs
  length_map [] = refl
  length_map (x ∷ xs) = ap suc (length_map xs)

  pub position_map : (xs : List X) → position p (map f xs) ≡ position q xs
  position_map xs =
      ap (λ (n : ℕ). cond (nat_lt n (length (map f xs))) (Some n) None) (place_map xs)
      ∙ ap (λ (n : ℕ). cond (nat_lt (position_or_len q xs) n) (Some (position_or_len q xs)) None) (length_map xs)

over_limit : (n : ℕ) → nat_lt 100000 (min n 100001) ≡ not (nat_le n 100000)
over_limit n = grind (arith, nat_tests)

-- the first that is too heavy
pub first_over : (pages : List PageDef) (known : List ℕ) → known ≡ weights pages 8 → position (λ n. nat_lt 100000 n) known ≡ position (is_heavy pages) pages
first_over pages known same =
    ap (position (λ n. nat_lt 100000 n)) same
    ∙ position_map (λ n. nat_lt 100000 n) (is_heavy pages) (λ page. capped (weight pages 8 page)) (λ page. over_limit (weight pages 8 page)) pages
