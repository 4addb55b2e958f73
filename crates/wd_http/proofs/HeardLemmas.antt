-- Bytes are heard in one way.
use Rattle.std.proofs.Common.{◌≡◌, ◌⊎◌, ◌++◌, ◌∷◌, List, [], ℕ, Bool, true, false, length, ap, refl, sym, subst, ◌∙◌, inl, inr, append_assoc, append-nil, arith, length-append, All}
use Rattle.std.proofs.lemmas.List.Elements.{recursion_from_All}
use Rattle.std.specs.List.{AllByRecursion}
use Rattle.wd_http.specs.declared.request.Request.{Request}
use Rattle.wd_http.specs.Frames.{Spells, Heard, StayOpen, LastCloses, End, Rest, Bad, Closed, EndsAt}
use Rattle.wd_http.proofs.UniqueLemmas.{spelling_unique, not_bad, bad_unique}

-- qs goes on behind rs, over the bytes between x and y
Longer : List Request → List Request → List ℕ → List ℕ → Type 0
Longer rs qs x y = (more : List Request) × (w : List ℕ) × (qs ≡ rs ++ more) × Spells w more × (x ≡ w ++ y)

compare : (rs qs : List Request) (t u x y : List ℕ) → t ++ x ≡ u ++ y → Spells t rs → Spells u qs → Longer rs qs x y ⊎ Longer qs rs y x
unfolding Longer
compare [] qs t u x y e p q = inl (qs, u, refl, q, ap (λ v. v ++ x) (sym p) ∙ e)
compare (r ∷ rs) [] t u x y e p q = inr (r ∷ rs, t, refl, p, ap (λ v. v ++ y) (sym q) ∙ sym e)
compare (r ∷ rs) (k ∷ qs) t u x y e (s, rest, split, spell, later) (s', rest', split', spell', later') =
    let whole : s ++ (rest ++ x) ≡ s' ++ (rest' ++ y) =
    sym (append_assoc s rest x) ∙ (ap (λ v. v ++ x) (sym split) ∙ (e ∙ (ap (λ v. v ++ y) split' ∙ append_assoc s' rest' y))) in
    let one = spelling_unique s s' (rest ++ x) (rest' ++ y) r k whole spell spell' in
    elim (compare rs qs rest rest' x y one.1 later later') [
      | inl g ↦ inl (g.0, g.1, ap (λ v. k ∷ v) g.2 ∙ ap (λ v. v ∷ (rs ++ g.0)) (sym one.2), g.3, g.4)
      | inr g ↦ inr (g.0, g.1, ap (λ v. r ∷ v) g.2 ∙ ap (λ v. v ∷ (qs ++ g.0)) one.2, g.3, g.4)
    ]

stays : Request → Type 0
stays r = r.close ≡ false

last_stays : (front : List Request) (last : Request) (k : List Request) → AllByRecursion (λ r. r.close ≡ false) ((front ++ last ∷ []) ++ k) → last.close ≡ false
last_stays [] last k h = h.0
last_stays (f ∷ front) last k h = last_stays front last k h.1

not_false : (b : Bool) → b ≡ true → b ≡ false → ⊥
not_false b p q = absurd (cc (p, q))

-- requests of which the last closes don't go on
closed_stays : (rs k : List Request) → LastCloses rs → StayOpen (rs ++ k) → ⊥
closed_stays rs k l o =
    let P : List Request → Type 0 = λ v. All (λ r. r.close ≡ false) (v ++ k) in
    let each = recursion_from_All (λ r. r.close ≡ false) ((l.front ++ l.last ∷ []) ++ k) (subst P l.whole o.none_closes) in
    elim l.closes [
      | inl c ↦ not_false _ c (last_stays l.front l.last k each)
      | inr n ↦ let f = o.further in absurd (omega (arith, n, f, length-append rs k))
    ]

closed_alone : (rs : List Request) → LastCloses rs → StayOpen rs → ⊥
closed_alone rs l o = let P : List Request → Type 0 = StayOpen in closed_stays rs [] l (subst P (sym (append-nil rs)) o)

same_tail : (a b : Request) (xs ys : List Request) → a ∷ xs ≡ b ∷ ys → (a ≡ b) × (xs ≡ ys)
same_tail a b xs ys e = (cc, cc)

-- what is in front of more lies in front of the last
front_more : (rs : List Request) (m : Request) (ms front : List Request) (last : Request) → rs ++ m ∷ ms ≡ front ++ last ∷ [] → (k : List Request) × (front ≡ rs ++ k)
front_more [] m ms front last e = (front, refl)
front_more (r ∷ rs) m ms [] last e = absurd (omega (arith, ap length e, length-append rs (m ∷ ms)))
front_more (r ∷ rs) m ms (f ∷ front) last e =
    let t = same_tail r f (rs ++ m ∷ ms) (front ++ last ∷ []) e in
    let g = front_more rs m ms front last t.1 in
    (g.0, ap (λ v. f ∷ v) g.1 ∙ ap (λ v. v ∷ (rs ++ g.0)) (sym t.0))

-- no request is heard behind the end
no_further : (rs qs ms : List Request) (m : Request) (x y w : List ℕ) (e f : End) → qs ≡ rs ++ m ∷ ms → Spells w (m ∷ ms) → x ≡ w ++ y → EndsAt x rs e → EndsAt y qs f → ⊥
no_further rs qs ms m x y w Rest f eq (s, rest, split, spell, later) cut ends other =
    ends.0.no_request s (rest ++ y) m (cut ∙ (ap (λ v. v ++ y) split ∙ append_assoc s rest y)) spell
no_further rs qs ms m x y w (Bad kind) f eq (s, rest, split, spell, later) cut ends other =
    not_bad x s (rest ++ y) m kind (cut ∙ (ap (λ v. v ++ y) split ∙ append_assoc s rest y)) spell ends.0
no_further rs qs ms m x y w Closed Rest eq sp cut ends other = let P : List Request → Type 0 = StayOpen in closed_stays rs (m ∷ ms) ends (subst P eq other.1)
no_further rs qs ms m x y w Closed (Bad kind) eq sp cut ends other = let P : List Request → Type 0 = StayOpen in closed_stays rs (m ∷ ms) ends (subst P eq other.1)
no_further rs qs ms m x y w Closed Closed eq sp cut ends other =
    let g = front_more rs m ms other.front other.last (sym eq ∙ other.whole) in
    let P : List Request → Type 0 = StayOpen in
    closed_stays rs g.0 ends (subst P g.1 other.earlier)

ends_once : (x : List ℕ) (rs : List Request) (e f : End) → EndsAt x rs e → EndsAt x rs f → e ≡ f
ends_once x rs Rest Rest p q = refl
ends_once x rs Rest (Bad k) p q = absurd (p.0.no_bad k q.0)
ends_once x rs Rest Closed p q = absurd (closed_alone rs q p.1)
ends_once x rs (Bad j) Rest p q = absurd (q.0.no_bad j p.0)
ends_once x rs (Bad j) (Bad k) p q = ap Bad (bad_unique x j k p.0 q.0)
ends_once x rs (Bad j) Closed p q = absurd (closed_alone rs q p.1)
ends_once x rs Closed Rest p q = absurd (closed_alone rs p q.1)
ends_once x rs Closed (Bad k) p q = absurd (closed_alone rs p q.1)
ends_once x rs Closed Closed p q = refl

by_longer : (rs qs : List Request) (x y : List ℕ) (e f : End) → EndsAt x rs e → EndsAt y qs f → (more : List Request) (w : List ℕ) → qs ≡ rs ++ more → Spells w more → x ≡ w ++ y → (rs ≡ qs) × (e ≡ f)
by_longer rs qs x y e f p q [] w eq sp cut =
    let same : rs ≡ qs = sym (eq ∙ append-nil rs) in
    let here : y ≡ x = sym (cut ∙ ap (λ v. v ++ y) sp) in
    let P : List ℕ → Type 0 = λ v. EndsAt v qs f in
    let Q : List Request → Type 0 = λ v. EndsAt x v f in
    (same, ends_once x rs e f p (subst Q (sym same) (subst P here q)))
by_longer rs qs x y e f p q (m ∷ ms) w eq sp cut = absurd (no_further rs qs ms m x y w e f eq sp cut p q)

pub heard_once : (b : List ℕ) (rs qs : List Request) (e f : End) → Heard b rs e → Heard b qs f → (rs ≡ qs) × (e ≡ f)
unfolding Longer
heard_once b rs qs e f h k =
    elim (compare rs qs h.text k.text h.rest k.rest (sym h.whole ∙ k.whole) h.spells k.spells) [
      | inl g ↦ by_longer rs qs h.rest k.rest e f h.ends k.ends g.0 g.1 g.2 g.3 g.4
      | inr g ↦ let r = by_longer qs rs k.rest h.rest f e k.ends h.ends g.0 g.1 g.2 g.3 g.4 in (sym r.0, sym r.1)
    ]
