-- Of things whose timers run out, advancing leads to one: the next timer is found as long as one is due.
use Rattle.std.proofs.Common.{◌≡◌, ◌≢◌, ◌<◌, ◌≤◌, ◌∙◌, ◌⊎◌, inl, inr, ℕ, zero, suc, max, Bool, true, false, List, [], ◌∷◌, length, sym, ap, refl, subst, arith}
use Rattle.std.specs.Prelude.{nat_le}
use Rattle.std.specs.Cmp.{IsTotalOrder}
use Rattle.std.specs.List.{Contains, slice_index_or}
use Rattle.std.specs.Ordering.{ordering_reverse}
use Rattle.std.specs.declared.cmp.Ordering.{Ordering}
use Rattle.std.specs.declared.cmp.Ordering.TheVariants.{Less, Equal, Greater}
use Rattle.std.proofs.lemmas.Bool.{leb-true, leb-false}
use Rattle.waits.specs.Advancing.{Timers, NoneDue, IsNext, Advances, Over, Runs, AreInTurn, RunOut}

-- ---- what a list holds

module _ {T : Type 0} (y x : T) (ts : List T) where
  holds_more : Contains ts x → Contains (y ∷ ts) x
  holds_more (k, within, here) = (suc k, omega (arith, within), here)

  first_or_later : (k : ℕ) → k < length (y ∷ ts) → slice_index_or (y ∷ ts) k x ≡ x → (y ≡ x) ⊎ Contains ts x
  first_or_later zero within here = inl here
  first_or_later (suc k) within here = inr (k, omega (arith, within), here)

-- ---- an order

module _ {T : Type 0} (order : T → T → Ordering) (total : IsTotalOrder order) where
  pub not_before_itself : (a : T) → order a a ≢ Greater
  not_before_itself a e = let h : Greater ≡ Less = sym e ∙ total.antisymm a a ∙ ap ordering_reverse e in cc

  not_greater_on : (a b c : T) → order a b ≢ Greater → order b c ≢ Greater → order a c ≢ Greater
  not_greater_on a b c x y = by (order a b) (order b c) refl refl
    where
      by : (one two : Ordering) → order a b ≡ one → order b c ≡ two → order a c ≢ Greater
      by Less Less e f g = let h : Less ≡ Greater = sym (total.trans a b c e f) ∙ g in cc
      by Less Equal e f g =
          let same : order c a ≡ order b a = total.congr c b a (total.antisymm c b ∙ ap ordering_reverse f) in
          let more : order b a ≡ Greater = total.antisymm b a ∙ ap ordering_reverse e in
          let h : Less ≡ Greater = sym (total.antisymm a c ∙ ap ordering_reverse (same ∙ more)) ∙ g in cc
      by Less Greater e f g = y f
      by Equal two e f g = y (sym (total.congr a b c e) ∙ g)
      by Greater two e f g = x e

-- ---- the next of the timers in a list

module _ {W T : Type 0} (timers : Timers W T) (turn : AreInTurn timers) (to : ℕ) where
  abbrev NoneIn : List T → Type 0
  NoneIn ts = (t : T) → Contains ts t → to < timers.due t

  abbrev IsFirstIn : List T → T → Type 0
  IsFirstIn ts t = Contains ts t × (timers.due t ≤ to) × ((rival : T) → Contains ts rival → timers.due rival ≤ to → timers.order t rival ≢ Greater)

  first_alone : (y : T) (ts : List T) → timers.due y ≤ to → NoneIn ts → IsFirstIn (y ∷ ts) y
  first_alone y ts due none = ((0, omega arith, refl), due, first)
    where
      by : (rival : T) → timers.due rival ≤ to → (y ≡ rival) ⊎ Contains ts rival → timers.order y rival ≢ Greater
      by rival within (inl same) = let P : T → Type 0 = λ t. timers.order y t ≢ Greater in subst P same (not_before_itself timers.order turn.total y)
      by rival within (inr there) = absurd (let late : to < timers.due rival = none rival there in omega (arith, late, within))

      first : (rival : T) → Contains (y ∷ ts) rival → timers.due rival ≤ to → timers.order y rival ≢ Greater
      first rival (k, there, here) within = by rival within (first_or_later y rival ts k there here)

  first_before : (y t : T) (ts : List T) → timers.due y ≤ to → timers.order y t ≢ Greater → IsFirstIn ts t → IsFirstIn (y ∷ ts) y
  first_before y t ts due before is = ((0, omega arith, refl), due, first)
    where
      by : (rival : T) → timers.due rival ≤ to → (y ≡ rival) ⊎ Contains ts rival → timers.order y rival ≢ Greater
      by rival within (inl same) = let P : T → Type 0 = λ t. timers.order y t ≢ Greater in subst P same (not_before_itself timers.order turn.total y)
      by rival within (inr there) = not_greater_on timers.order turn.total y t rival before (is.2 rival there within)

      first : (rival : T) → Contains (y ∷ ts) rival → timers.due rival ≤ to → timers.order y rival ≢ Greater
      first rival (k, there, here) within = by rival within (first_or_later y rival ts k there here)

  first_behind : (y t : T) (ts : List T) → (timers.due y ≤ to → timers.order t y ≢ Greater) → IsFirstIn ts t → IsFirstIn (y ∷ ts) t
  first_behind y t ts before is = (holds_more y t ts is.0, is.1, first)
    where
      by : (rival : T) → timers.due rival ≤ to → (y ≡ rival) ⊎ Contains ts rival → timers.order t rival ≢ Greater
      by rival within (inl same) = let P : T → Type 0 = λ x. timers.due x ≤ to → timers.order t x ≢ Greater in subst P same before within
      by rival within (inr there) = is.2 rival there within

      first : (rival : T) → Contains (y ∷ ts) rival → timers.due rival ≤ to → timers.order t rival ≢ Greater
      first rival (k, there, here) within = by rival within (first_or_later y rival ts k there here)

  none_more : (y : T) (ts : List T) → to < timers.due y → NoneIn ts → NoneIn (y ∷ ts)
  none_more y ts late none t (k, there, here) = by (first_or_later y t ts k there here)
    where
      by : (y ≡ t) ⊎ Contains ts t → to < timers.due t
      by (inl same) = let P : T → Type 0 = λ x. to < timers.due x in subst P same late
      by (inr holds) = none t holds

  abbrev FirstOrNone : List T → Type 0
  FirstOrNone ts = NoneIn ts ⊎ ((t : T) × IsFirstIn ts t)

  which : (y t : T) (ts : List T) → timers.due y ≤ to → IsFirstIn ts t → (o : Ordering) → timers.order y t ≡ o → FirstOrNone (y ∷ ts)
  which y t ts due is Less e = inr (y, first_before y t ts due (λ g. let h : Less ≡ Greater = sym e ∙ g in cc) is)
  which y t ts due is Equal e = inr (y, first_before y t ts due (λ g. let h : Equal ≡ Greater = sym e ∙ g in cc) is)
  which y t ts due is Greater e =
      let less : timers.order t y ≡ Less = turn.total.antisymm t y ∙ ap ordering_reverse e in
      inr (t, first_behind y t ts (λ d. λ g. let h : Less ≡ Greater = sym less ∙ g in cc) is)

  with_first : (y : T) (ts : List T) (due : Bool) → nat_le (timers.due y) to ≡ due → FirstOrNone ts → FirstOrNone (y ∷ ts)
  with_first y ts true d (inl none) = inr (y, first_alone y ts (leb-true (timers.due y) to d) none)
  with_first y ts true d (inr (t, is)) = which y t ts (leb-true (timers.due y) to d) is (timers.order y t) refl
  with_first y ts false d (inl none) = inl (none_more y ts (leb-false (timers.due y) to d) none)
  with_first y ts false d (inr (t, is)) =
      inr (t, first_behind y t ts (λ due. absurd (let late : to < timers.due y = leb-false (timers.due y) to d in omega (arith, late, due))) is)

  first_or_none : (ts : List T) → FirstOrNone ts
  first_or_none [] = inl (λ t holds. absurd (let within : holds.0 < 0 = holds.1 in omega (arith, within)))
  first_or_none (y ∷ ts) = with_first y ts (nat_le (timers.due y) to) refl (first_or_none ts)

  pub next_or_none : (w : W) → NoneDue timers w to ⊎ ((t : T) × IsNext timers w to t)
  next_or_none w = by (first_or_none (turn.all w))
    where
      by : FirstOrNone (turn.all w) → NoneDue timers w to ⊎ ((t : T) × IsNext timers w to t)
      by (inl none) = inl (λ t may. none t ((turn.are_all w t).0 may))
      by (inr (t, is)) = inr (t, record { may = (turn.are_all w t).1 is.0; due = is.1; first = λ rival may within. is.2 rival ((turn.are_all w rival).0 may) within })

-- ---- all that are due run

module _ {W T : Type 0} (timers : Timers W T) (runs : W → T → ℕ → W → Type 0) (turn : AreInTurn timers) (out : RunOut timers runs) where
  abbrev Somewhere : ℕ → W → ℕ → Type 0
  Somewhere to w reached = (later : W) × Advances timers runs to w reached later

  on_from : (to : ℕ) (w : W) (reached : ℕ) → ((t : T) (mid : W) → IsNext timers w to t → runs w t (max (timers.due t) reached) mid → Somewhere to mid (max (timers.due t) reached))
      → NoneDue timers w to ⊎ ((t : T) × IsNext timers w to t) → Somewhere to w reached
  on_from to w reached again (inl none) = (w, Over w reached none)
  on_from to w reached again (inr (t, next)) =
      let ran = out.there w t (max (timers.due t) reached) next.may in
      let rest = again t ran.0 next ran.1 in
      (rest.0, Runs w ran.0 rest.0 reached t next ran.1 rest.1)

  within : (most to : ℕ) (w : W) (reached : ℕ) → out.left w ≤ most → Somewhere to w reached
  within zero to w reached few =
      on_from to w reached
      (λ t mid next ran. absurd (let fewer = out.fewer w mid t (max (timers.due t) reached) next.may ran in omega (arith, few, fewer)))
      (next_or_none timers turn to w)
  within (suc most) to w reached few =
      on_from to w reached
      (λ t mid next ran. within most to mid (max (timers.due t) reached)
      (let fewer = out.fewer w mid t (max (timers.due t) reached) next.may ran in omega (arith, few, fewer)))
      (next_or_none timers turn to w)

  pub somewhere : (to : ℕ) (w : W) (reached : ℕ) → Somewhere to w reached
  somewhere to w reached = within (out.left w) to w reached (omega arith)
