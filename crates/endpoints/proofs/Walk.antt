-- What a router answers whose parameters are whole segments: the value of a row that takes the path, and some value wherever a row does.
use Rattle.std.proofs.Common.{◌≡◌, ℕ, zero, suc, ◌-◌, ◌<◌, ◌≤◌, List, [], ◌∷◌, length, drop, Option, Some, None, Bool, true, false, cond, refl, sym, ap, ◌∙◌, subst, arith, nat_eq, ◌==◌, ltb, ◌&&◌, ◌||◌, not}
use Rattle.std.proofs.lemmas.Bool.{and_parts}
use Rattle.std.proofs.lemmas.Bool.Decides.{nat_tests}
use Rattle.std.proofs.Math.Bool.{or_assoc, or-true, or-false}
use Rattle.std.proofs.Math.Seq.{drop-length}
use Rattle.std.specs.Cmp.Lexicographic.{pointwise}
use Rattle.matchit.specs.Rows.{RowsOf}
use Rattle.matchit.specs.Level.{IsText}
use Rattle.matchit.specs.Seek.{own, step, or_else, seek, param_step, has_slash, segment, cuts, longest_from, with_suffix, same_text}

-- the path from its first slash on
abbrev pub rest_of : List ℕ → List ℕ
rest_of [] = []
rest_of (b ∷ p) = cond (b == 47) (b ∷ p) (rest_of p)

-- the tokens take the whole path, a parameter each byte up to the next slash, of which there is one at least
abbrev pub takes : List ℕ → List ℕ → Bool
takes [] [] = true
takes [] (b ∷ p) = false
takes (x ∷ t) [] = false
takes (x ∷ t) (b ∷ p) = cond (x == 256) (not (b == 47) && takes t (rest_of p)) ((x == b) && takes t p)

abbrev pub slash_next : List ℕ → Bool
slash_next [] = true
slash_next (x ∷ t) = x == 47

-- each parameter is a whole segment, and there is no catch-all
abbrev pub is_whole : List ℕ → Bool
is_whole [] = true
is_whole (x ∷ t) = cond (x == 256) (slash_next t) (ltb x 256) && is_whole t

abbrev pub all_whole : {K : Type 0} → RowsOf K → Bool
all_whole [] = true
all_whole ((t, k) ∷ rs) = is_whole t && all_whole rs

abbrev all_next : {K : Type 0} → RowsOf K → Bool
all_next [] = true
all_next ((t, k) ∷ rs) = slash_next t && all_next rs

-- a row takes the path, and its value passes the test
abbrev pub any : {K : Type 0} → (K → Bool) → RowsOf K → List ℕ → Bool
any q [] p = false
any q ((t, k) ∷ rs) p = (takes t p && q k) || any q rs p

-- an answer for those that pass: there is none, or it is one of them
abbrev pub Says : {K : Type 0} → ((K → Bool) → Bool) → Option K → Type 0
Says {K} f None = (q : K → Bool) → f q ≡ false
Says {K} f (Some k) = (q : K → Bool) → q k ≡ true → f q ≡ true

says-or : {K : Type 0} (f g : (K → Bool) → Bool) (a b : Option K) → Says f a → Says g b → Says (λ q. f q || g q) (or_else a b)
says-or f g None None s t = λ q. rw (s q) (t q)
says-or f g None (Some k) s t = λ q e. rw (t q e) (or-true (f q))
says-or f g (Some k) b s t = λ q e. rw (s q e) refl

says-same : {K : Type 0} (f g : (K → Bool) → Bool) → ((q : K → Bool) → g q ≡ f q) → (o : Option K) → Says f o → Says g o
says-same f g e None s = λ q. e q ∙ s q
says-same f g e (Some k) s = λ q h. e q ∙ s q h

-- ---- the steps of the search

own-says : {K : Type 0} (rs : RowsOf K) → Says (λ q. any q rs []) (own rs)
own-says [] = λ q. refl
own-says (([], k) ∷ rs) = λ q e. rw e refl
own-says ((x ∷ t, k) ∷ rs) = own-says rs

and-false : (a : Bool) → (a && false) ≡ false
and-false true = refl
and-false false = refl

absorb : (c a : Bool) → (c || (a && c)) ≡ c
absorb true a = refl
absorb false a = and-false a

-- a row that takes the path goes on after its first byte, or is at a parameter there
any-step : {K : Type 0} (q : K → Bool) (b : ℕ) (p : List ℕ) (rs : RowsOf K) → b < 256
    → any q rs (b ∷ p) ≡ (any q (step b rs) p || (not (b == 47) && any q (step 256 rs) (rest_of p)))
any-step q b p [] l = sym (and-false (not (b == 47)))
any-step q b p (([], k) ∷ rs) l = any-step q b p rs l
any-step q b p ((x ∷ t, k) ∷ rs) l = rw (any-step q b p rs l) (by (x == 256) (x == b) (λ e f. grind (arith, nat_tests)))
  where
    turn : (n a c d : Bool) → ((n && a) || (c || (n && d))) ≡ (c || (n && (a || d)))
    turn false a c d = refl
    turn true a true d = or-true a
    turn true a false d = refl

    inner : (n a c : Bool) → ((n && a) && c) ≡ (n && (a && c))
    inner true a c = refl
    inner false a c = refl

    by : (u v : Bool) → (u ≡ true → v ≡ true → ⊥)
        → ((cond u (not (b == 47) && takes t (rest_of p)) (v && takes t p) && q k) || (any q (step b rs) p || (not (b == 47) && any q (step 256 rs) (rest_of p))))
        ≡ (any q (cond v ((t, k) ∷ step b rs) (step b rs)) p || (not (b == 47) && any q (cond u ((t, k) ∷ step 256 rs) (step 256 rs)) (rest_of p)))
    by true true n = absurd (n refl refl)
    by true false n =
        rw (inner (not (b == 47)) (takes t (rest_of p)) (q k)) (turn (not (b == 47)) (takes t (rest_of p) && q k) (any q (step b rs) p) (any q (step 256 rs) (rest_of p)))
    by false true n = sym (or_assoc (takes t p && q k) (any q (step b rs) p) _)
    by false false n = refl

step-whole : {K : Type 0} (b : ℕ) (rs : RowsOf K) → all_whole rs ≡ true → all_whole (step b rs) ≡ true
step-whole b [] h = refl
step-whole b (([], k) ∷ rs) h = step-whole b rs h
step-whole {K} b ((x ∷ t, k) ∷ rs) h =
    let w = and_parts (is_whole (x ∷ t)) (all_whole rs) h in
    by (x == b) (and_parts _ (is_whole t) w.0).1 (step-whole b rs w.1)
  where
    by : (v : Bool) → is_whole t ≡ true → all_whole (step b rs) ≡ true → all_whole (cond v ((t, k) ∷ step b rs) (step b rs)) ≡ true
    by true w ih = rw (w, ih) refl
    by false w ih = ih

step-next : {K : Type 0} (rs : RowsOf K) → all_whole rs ≡ true → all_next (step 256 rs) ≡ true
step-next [] h = refl
step-next (([], k) ∷ rs) h = step-next rs h
step-next {K} ((x ∷ t, k) ∷ rs) h =
    let w = and_parts (is_whole (x ∷ t)) (all_whole rs) h in
    by (x == 256) (and_parts _ (is_whole t) w.0).0 (step-next rs w.1)
  where
    by : (v : Bool) → cond v (slash_next t) (ltb x 256) ≡ true → all_next (step 256 rs) ≡ true → all_next (cond v ((t, k) ∷ step 256 rs) (step 256 rs)) ≡ true
    by true e ih = rw (e, ih) refl
    by false e ih = ih

step-none : {K : Type 0} (rs : RowsOf K) → all_whole rs ≡ true → step 257 rs ≡ []
step-none [] h = refl
step-none (([], k) ∷ rs) h = step-none rs h
step-none {K} ((x ∷ t, k) ∷ rs) h =
    let w = and_parts (is_whole (x ∷ t)) (all_whole rs) h in
    let n : (x == 257) ≡ false = by (x == 256) refl (and_parts _ (is_whole t) w.0).0 in
    rw n (step-none rs w.1)
  where
    by : (v : Bool) → (x == 256) ≡ v → cond v (slash_next t) (ltb x 256) ≡ true → (x == 257) ≡ false
    by true e f = grind (arith, nat_tests)
    by false e f = grind (arith, nat_tests)

-- ---- the parameter

no-rest : (p : List ℕ) → has_slash p ≡ false → (rest_of p ≡ []) × (segment p ≡ p)
no-rest [] h = (refl, refl)
no-rest (b ∷ p) h = by (b == 47) h (no-rest p)
  where
    by : (v : Bool) → cond v true (has_slash p) ≡ false → (has_slash p ≡ false → (rest_of p ≡ []) × (segment p ≡ p))
        → (cond v (b ∷ p) (rest_of p) ≡ []) × (cond v (b ∷ []) (b ∷ segment p) ≡ b ∷ p)
    by true h ih = cc
    by false h ih = ((ih h).0, ap (λ s. b ∷ s) (ih h).1)

-- the path behind the bytes in front of a slash
abbrev Behind : ℕ → List ℕ → Type 0
Behind b p = (q : List ℕ) × (rest_of p ≡ 47 ∷ q) × (drop (length (segment p)) (b ∷ p) ≡ 47 ∷ q)

some-rest : (b : ℕ) (p : List ℕ) → has_slash p ≡ true → Behind b p
some-rest b [] h = cc
some-rest b (c ∷ p) h = by (c == 47) refl h (some-rest c p)
  where
    by : (v : Bool) → (c == 47) ≡ v → cond v true (has_slash p) ≡ true → (has_slash p ≡ true → Behind c p)
        → (q : List ℕ) × (cond v (c ∷ p) (rest_of p) ≡ 47 ∷ q) × (drop (length (cond v (c ∷ []) (c ∷ segment p))) (b ∷ c ∷ p) ≡ 47 ∷ q)
    by true e h ih = let s : c ≡ 47 = grind (arith, nat_tests) in let f : c ∷ p ≡ 47 ∷ p = ap (λ x. x ∷ p) s in (p, f, f)
    by false e h ih = ih h

rest-less : (p : List ℕ) → length (rest_of p) ≤ length p
rest-less [] = omega arith
rest-less (b ∷ p) = by (b == 47) (rest-less p)
  where
    by : (v : Bool) → length (rest_of p) ≤ length p → length (cond v (b ∷ p) (rest_of p)) ≤ length (b ∷ p)
    by true l = omega arith
    by false l = omega arith

rest-text : (p : List ℕ) → IsText p → IsText (rest_of p)
rest-text [] h = tt
rest-text (b ∷ p) h = by (b == 47) (rest-text p h.1)
  where
    by : (v : Bool) → IsText (rest_of p) → IsText (cond v (b ∷ p) (rest_of p))
    by true ih = h
    by false ih = ih

-- a slash ends the segment exactly where there is one
ends : (b : ℕ) (p : List ℕ) → (b == 47) ≡ false → pointwise nat_eq (47 ∷ []) (drop (length (segment p)) (b ∷ segment p)) ≡ has_slash p
ends b [] e = let f : (47 == b) ≡ false = grind (arith, nat_tests) in rw f refl
ends b (c ∷ p) e = by (c == 47) refl (ends c p)
  where
    by : (v : Bool) → (c == 47) ≡ v → ((c == 47) ≡ false → pointwise nat_eq (47 ∷ []) (drop (length (segment p)) (c ∷ segment p)) ≡ has_slash p)
        → pointwise nat_eq (47 ∷ []) (drop (length (cond v (c ∷ []) (c ∷ segment p))) (b ∷ cond v (c ∷ []) (c ∷ segment p))) ≡ cond v true (has_slash p)
    by true e ih = let f : (47 == c) ≡ true = grind (arith, nat_tests) in rw f refl
    by false e ih = ih e

cuts-is : (b : ℕ) (p : List ℕ) → (b == 47) ≡ false → cuts (b ∷ segment p) (47 ∷ []) ≡ has_slash p
cuts-is b p e = let n : length (b ∷ segment p) - 1 ≡ length (segment p) = omega arith in rw (n, ends b p e) (by p)
  where
    by : (p : List ℕ) → (ltb 1 (length (b ∷ segment p)) && has_slash p) ≡ has_slash p
    by [] = refl
    by (c ∷ p) = on (c == 47)
      where
        on : (v : Bool) → (ltb 1 (length (b ∷ cond v (c ∷ []) (c ∷ segment p))) && cond v true (has_slash p)) ≡ cond v true (has_slash p)
        on true = refl
        on false = let l : ltb 1 (suc (suc (length (segment p)))) ≡ true = grind (arith, nat_tests) in rw l refl

abbrev any_slash : {K : Type 0} → RowsOf K → Bool
any_slash [] = false
any_slash (([], k) ∷ rs) = any_slash rs
any_slash ((x ∷ t, k) ∷ rs) = true

longest : {K : Type 0} (seg : List ℕ) (c v : Bool) (rs : RowsOf K) → cuts seg (47 ∷ []) ≡ c → all_next rs ≡ true
    → longest_from seg (cond v (47 ∷ []) []) rs ≡ cond (v || (any_slash rs && c)) (47 ∷ []) []
longest seg c true [] e h = refl
longest seg c false [] e h = refl
longest seg c true (([], k) ∷ rs) e h = longest seg c true rs e h
longest seg c false (([], k) ∷ rs) e h = longest seg c false rs e h
longest seg c v ((x ∷ t, k) ∷ rs) e h =
    let w = and_parts (x == 47) (all_next rs) h in
    let s : x ≡ 47 = grind (arith, nat_tests) in
    rw w.0 (rw s (by v (λ v. longest seg c v rs e w.1)))
  where
    by : (v : Bool) → ((v : Bool) → longest_from seg (cond v (47 ∷ []) []) rs ≡ cond (v || (any_slash rs && c)) (47 ∷ []) [])
        → longest_from seg (cond (ltb (length (cond {A = List ℕ} v (47 ∷ []) [])) 1 && cuts seg (47 ∷ [])) (47 ∷ []) (cond v (47 ∷ []) [])) rs ≡ cond (v || c) (47 ∷ []) []
    by true ih = ih true
    by false ih = rw e (ih c ∙ ap (λ w. cond w (47 ∷ []) []) (absorb c (any_slash rs)))

-- a parameter takes the bytes in front of a slash where a row has one next, and else all of a path without one
param-is : {K : Type 0} (b : ℕ) (p : List ℕ) (rs : RowsOf K) → (b == 47) ≡ false → all_next rs ≡ true
    → param_step rs (b ∷ p) ≡ cond (has_slash p) (cond (any_slash rs) (length (segment p), with_suffix (47 ∷ []) rs) (0, [])) (suc (length p), rs)
unfolding param_step
param-is {K} b p rs e h = rw (e, longest (b ∷ segment p) (has_slash p) false rs (cuts-is b p e) h) (by (any_slash rs) (has_slash p) refl)
  where
    n : length (b ∷ segment p) - 1 ≡ length (segment p)
    n = omega arith

    by : (a c : Bool) → has_slash p ≡ c
        → cond {A = ℕ × RowsOf K} (ltb 0 (length (cond {A = List ℕ} (a && c) (47 ∷ []) [])))
        (length (b ∷ segment p) - length (cond {A = List ℕ} (a && c) (47 ∷ []) []), with_suffix (cond {A = List ℕ} (a && c) (47 ∷ []) []) rs)
        (cond c (0, []) (length (b ∷ p), rs))
        ≡ cond c (cond a (length (segment p), with_suffix (47 ∷ []) rs) (0, [])) (suc (length p), rs)
    by true true e = rw n refl
    by true false e = refl
    by false true e = refl
    by false false e = refl

param-none : {K : Type 0} (p : List ℕ) (rs : RowsOf K) → all_next rs ≡ true → param_step rs (47 ∷ p) ≡ (0, [])
unfolding param_step
param-none p rs h = rw (longest (47 ∷ []) false false rs refl h, and-false (any_slash rs)) refl

-- a path that begins with a slash is taken by the rows with one next
any-suffix : {K : Type 0} (q : K → Bool) (p : List ℕ) (rs : RowsOf K) → all_next rs ≡ true → any q rs (47 ∷ p) ≡ any q (with_suffix (47 ∷ []) rs) (47 ∷ p)
any-suffix q p [] h = refl
any-suffix q p (([], k) ∷ rs) h = any-suffix q p rs h
any-suffix q p ((x ∷ t, k) ∷ rs) h =
    let w = and_parts (x == 47) (all_next rs) h in
    let kept : with_suffix (47 ∷ []) ((x ∷ t, k) ∷ rs) ≡ (x ∷ t, k) ∷ with_suffix (47 ∷ []) rs = rw (w.0, w.0) refl in
    ap (λ v. (takes (x ∷ t) (47 ∷ p) && q k) || v) (any-suffix q p rs w.1) ∙ ap (λ us. any q us (47 ∷ p)) (sym kept)

any-none : {K : Type 0} (q : K → Bool) (p : List ℕ) (rs : RowsOf K) → any_slash rs ≡ false → any q rs (47 ∷ p) ≡ false
any-none q p [] h = refl
any-none q p (([], k) ∷ rs) h = any-none q p rs h
any-none q p ((x ∷ t, k) ∷ rs) h = cc

suffix-whole : {K : Type 0} (s : List ℕ) (rs : RowsOf K) → all_whole rs ≡ true → all_whole (with_suffix s rs) ≡ true
suffix-whole s [] h = refl
suffix-whole {K} s ((t, k) ∷ rs) h = let w = and_parts (is_whole t) (all_whole rs) h in by (same_text (segment t) s) w.0 (suffix-whole s rs w.1)
  where
    by : (v : Bool) → is_whole t ≡ true → all_whole (with_suffix s rs) ≡ true → all_whole (cond v ((t, k) ∷ with_suffix s rs) (with_suffix s rs)) ≡ true
    by true w ih = rw (w, ih) refl
    by false w ih = ih

-- ---- the search

empty-param : {K : Type 0} (p : List ℕ) → (param_step {K = K} [] p).1 ≡ []
unfolding param_step
empty-param {K} p =
    elim (has_slash p) as (λ v. (cond {A = ℕ × RowsOf K} v (0, []) (length p, [])).1 ≡ []) [
      | true ↦ refl
      | false ↦ refl
    ]

seek-empty : {K : Type 0} (n : ℕ) (p : List ℕ) → seek {K = K} n [] p ≡ None
unfolding seek
seek-empty n [] = refl
seek-empty {K} (suc n) (b ∷ p) = seek-empty {K = K} n p
seek-empty {K} zero (b ∷ p) = simp (seek-empty {K = K} 0 p, empty-param {K = K} (b ∷ p), seek-empty {K = K} (((param_step {K = K} [] (b ∷ p)).0) - 1) p)

seek-drop : {K : Type 0} (n : ℕ) (rs : RowsOf K) (p : List ℕ) → seek n rs p ≡ seek 0 rs (drop n p)
unfolding seek
seek-drop zero rs p = refl
seek-drop (suc n) rs [] = refl
seek-drop (suc n) rs (b ∷ p) = seek-drop n rs p

abbrev Searched : {K : Type 0} → RowsOf K → List ℕ → Type 0
Searched {K} rs p = Says (λ q. any q rs p) (seek 0 rs p)

-- the search after a parameter
after-says : {K : Type 0} (n b : ℕ) (p : List ℕ) (rs : RowsOf K) → length p ≤ n → IsText p → all_whole rs ≡ true → all_next rs ≡ true
    → ((q : List ℕ) (us : RowsOf K) → length q ≤ n → IsText q → all_whole us ≡ true → Searched us q)
    → Says (λ q. not (b == 47) && any q rs (rest_of p)) (seek ((param_step rs (b ∷ p)).0 - 1) (param_step rs (b ∷ p)).1 p)
unfolding seek
after-says {K} n b p rs l x w h ih = by (b == 47) refl
  where
    after : ℕ × RowsOf K → Option K
    after s = seek (s.0 - 1) s.1 p

    behind : (b == 47) ≡ false → (q : List ℕ) → rest_of p ≡ 47 ∷ q → (m : ℕ) → drop m (b ∷ p) ≡ 47 ∷ q
        → Says (λ t. any t rs (rest_of p)) (seek (m - 1) (with_suffix (47 ∷ []) rs) p)
    behind e q r zero d = let s : b ≡ 47 = cc in absurd (grind (arith, nat_tests))
    behind e q r (suc m) d =
        let less : length (47 ∷ q) ≤ length p = subst (λ u. length u ≤ length p) r (rest-less p) in
        let us = with_suffix (47 ∷ []) rs in
        let found = ih (47 ∷ q) us (omega arith) (subst IsText r (rest-text p x)) (suffix-whole (47 ∷ []) rs w) in
        let at : seek (suc m - 1) us p ≡ seek 0 us (47 ∷ q) = let one : suc m - 1 ≡ m = omega arith in rw (one, seek-drop m us p, d) refl in
        rw (r, at) (says-same (λ t. any t us (47 ∷ q)) (λ t. any t rs (47 ∷ q)) (λ t. any-suffix t q rs h) _ found)

    at_slash : (b == 47) ≡ false → (q : List ℕ) → rest_of p ≡ 47 ∷ q → drop (length (segment p)) (b ∷ p) ≡ 47 ∷ q → (a : Bool) → any_slash rs ≡ a
        → Says (λ t. any t rs (rest_of p)) (after (cond {A = ℕ × RowsOf K} a (length (segment p), with_suffix (47 ∷ []) rs) (0, [])))
    at_slash e q r d true f = behind e q r (length (segment p)) d
    at_slash e q r d false f = rw (r, seek-empty {K = K} 0 p) (λ t. any-none t q rs f)

    on : (b == 47) ≡ false → (c : Bool) → has_slash p ≡ c
        → Says (λ t. any t rs (rest_of p)) (after (cond {A = ℕ × RowsOf K} c (cond (any_slash rs) (length (segment p), with_suffix (47 ∷ []) rs) (0, [])) (suc (length p), rs)))
    on e true f = let r = some-rest b p f in at_slash e r.0 r.1 r.2 (any_slash rs) refl
    on e false f =
        let one : suc (length p) - 1 ≡ length p = omega arith in
        rw ((no-rest p f).0, one, seek-drop (length p) rs p, drop-length p) (own-says rs)

    by : (v : Bool) → (b == 47) ≡ v → Says (λ q. not v && any q rs (rest_of p)) (after (param_step rs (b ∷ p)))
    by true e =
        let s : b ≡ 47 = grind (arith, nat_tests) in
        rw (s, param-none p rs h, seek-empty {K = K} 0 p) (λ q. refl)
    by false e = rw (param-is b p rs e h) (on e (has_slash p) refl)

pub search-says : {K : Type 0} (n : ℕ) (p : List ℕ) (rs : RowsOf K) → length p ≤ n → IsText p → all_whole rs ≡ true → Searched rs p
unfolding seek
search-says n [] rs l x w = own-says rs
search-says zero (b ∷ p) rs l x w = absurd (omega arith)
search-says {K} (suc n) (b ∷ p) rs l x w =
    let none : Says (λ q. false) (own (step 257 rs)) = rw (step-none rs w) (λ q. refl) in
    let par = after-says n b p (step 256 rs) (omega arith) x.1 (step-whole 256 rs w) (step-next rs w) (λ q us. search-says n q us) in
    says-same _ (λ q. any q rs (b ∷ p)) (λ q. rw or-false (any-step q b p rs x.0)) _ (says-or _ _ _ _ (search-says n p (step b rs) (omega arith) x.1 (step-whole b rs w)) (says-or _ _ _ _ par none))
