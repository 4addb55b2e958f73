-- What is true of advancing, whatever has the timers.
use Rattle.std.proofs.Common.{◌≡◌, ◌≢◌, ◌<◌, ◌≤◌, ◌∙◌, ℕ, max, Bool, true, false, sym, ap, refl, subst, arith}
use Rattle.std.specs.Prelude.{nat_le}
use Rattle.std.specs.Ordering.{ordering_reverse}
use Rattle.std.specs.declared.cmp.Ordering.{Ordering}
use Rattle.std.specs.declared.cmp.Ordering.TheVariants.{Less, Equal, Greater}
use Rattle.std.proofs.lemmas.Bool.{leb-true, leb-false}
use Rattle.waits.specs.Advancing.{Timers, NoneDue, IsNext, Advances, Over, Runs, AreInTurn, RunOut}

module _ {W T : Type 0} (timers : Timers W T) where
  pub not_over : (w : W) (to : ℕ) (t : T) → NoneDue timers w to → IsNext timers w to t → ⊥
  not_over w to t none next = let late : to < timers.due t = none t next.may in let due : timers.due t ≤ to = next.due in omega (arith, late, due)

  -- one timer alone is the next
  pub one_next : AreInTurn timers → (w : W) (to : ℕ) (a b : T) → IsNext timers w to a → IsNext timers w to b → a ≡ b
  one_next turn w to a b one other = by (timers.order a b) refl
    where
      by : (o : Ordering) → timers.order a b ≡ o → a ≡ b
      by Less e =
          let back : timers.order b a ≡ Greater = turn.total.antisymm b a ∙ ap ordering_reverse e in
          absurd (other.first a one.may one.due back)
      by Equal e = turn.apart w a b one.may other.may e
      by Greater e = absurd (one.first b other.may other.due e)

  -- what is next by a moment is so by a later one
  pub next_later : AreInTurn timers → (w : W) (a b : ℕ) (t : T) → a ≤ b → IsNext timers w a t → IsNext timers w b t
  next_later turn w a b t a_b next = record { may = next.may; due = (let d : timers.due t ≤ a = next.due in omega (arith, d, a_b)); first = first }
    where
      by : (rival : T) → timers.may_run w rival → (early : Bool) → nat_le (timers.due rival) a ≡ early → timers.order t rival ≢ Greater
      by rival may true is = next.first rival may (leb-true (timers.due rival) a is)
      by rival may false is = λ greater.
          let late : a < timers.due rival = leb-false (timers.due rival) a is in
          let d : timers.due t ≤ a = next.due in
          let less : timers.order t rival ≡ Less = turn.by_due t rival (omega (arith, late, d)) in
          let h : Less ≡ Greater = sym less ∙ greater in cc

      first : (rival : T) → timers.may_run w rival → timers.due rival ≤ b → timers.order t rival ≢ Greater
      first rival may within = by rival may (nat_le (timers.due rival) a) refl

module _ {W T : Type 0} (timers : Timers W T) (runs : W → T → ℕ → W → Type 0) where
  pub over_after : (to : ℕ) (w : W) (reached : ℕ) (later : W) → Advances timers runs to w reached later → NoneDue timers later to
  over_after to w r l (Over thing reached none) = none
  over_after to w r l (Runs thing mid later reached t next ran rest) = over_after to mid (max (timers.due t) reached) later rest

  pub over_one : (to : ℕ) (w : W) (reached : ℕ) (later : W) → Advances timers runs to w reached later → NoneDue timers w to → w ≡ later
  over_one to w r l (Over thing reached none) over = refl
  over_one to w r l (Runs thing mid later reached t next ran rest) over = absurd (not_over timers thing to t over next)

  -- where nothing is due by a, it doesn't matter whether a was reached
  pub moved : (a b : ℕ) (w : W) (one two : ℕ) (later : W) → one ≤ a → two ≤ a → NoneDue timers w a → Advances timers runs b w one later → Advances timers runs b w two later
  moved a b w o two l one_a two_a still (Over thing one none) = Over thing two none
  moved a b w o two l one_a two_a still (Runs thing mid later one t next ran rest) =
      let late : a < timers.due t = still t next.may in
      let same : max (timers.due t) one ≡ max (timers.due t) two = omega (arith, late, one_a, two_a) in
      let P : ℕ → Type 0 = λ m. runs thing t m mid in
      let Q : ℕ → Type 0 = λ m. Advances timers runs b mid m later in
      Runs thing mid later two t next (subst P same ran) (subst Q same rest)

module _ {W T : Type 0} (timers : Timers W T) (runs : W → T → ℕ → W → Type 0) (turn : AreInTurn timers) where
  -- to a moment and then to a later one is to the later one
  pub advances_on : (a b : ℕ) (w : W) (reached : ℕ) (mid later : W) → a ≤ b → reached ≤ a → Advances timers runs a w reached mid → Advances timers runs b mid a later → Advances timers runs b w reached later
  advances_on a b w r m later a_b r_a (Over thing reached none) more = moved timers runs a b thing a reached later (omega arith) r_a none more
  advances_on a b w r m later a_b r_a (Runs thing mid end reached t next ran rest) more =
      let due : timers.due t ≤ a = next.due in
      Runs thing mid later reached t (next_later timers turn thing a b t a_b next) ran
      (advances_on a b mid (max (timers.due t) reached) end later a_b (omega (arith, due, r_a)) rest more)

module _ {W T : Type 0} (timers : Timers W T) (runs : W → T → ℕ → W → Type 0) (turn : AreInTurn timers) (out : RunOut timers runs) where
  -- the next timer runs first
  runs_first : (to : ℕ) (w : W) (reached : ℕ) (later : W) → Advances timers runs to w reached later → (t : T) (mid : W) → IsNext timers w to t
      → runs w t (max (timers.due t) reached) mid → Advances timers runs to mid (max (timers.due t) reached) later
  runs_first to w r l (Over thing reached none) t mid next ran = absurd (not_over timers thing to t none next)
  runs_first to w r l (Runs thing mid' later reached t' next' ran' rest) t mid next ran =
      let same : t' ≡ t = one_next timers turn thing to t' t next' next in
      let P : T → Type 0 = λ x. runs thing x (max (timers.due x) reached) mid' in
      let Q : T → Type 0 = λ x. Advances timers runs to mid' (max (timers.due x) reached) later in
      let R : W → Type 0 = λ x. Advances timers runs to x (max (timers.due t) reached) later in
      subst R (out.one thing mid' mid t (max (timers.due t) reached) (subst P same ran') ran) (subst Q same rest)

  -- what is left to a later moment, from the thing at an earlier one
  pub advances_rest : (a b : ℕ) (w : W) (reached : ℕ) (mid later : W) → a ≤ b → reached ≤ a → Advances timers runs a w reached mid → Advances timers runs b w reached later → Advances timers runs b mid a later
  advances_rest a b w r m later a_b r_a (Over thing reached none) whole = moved timers runs a b thing reached a later r_a (omega arith) none whole
  advances_rest a b w r m later a_b r_a (Runs thing mid end reached t next ran rest) whole =
      let due : timers.due t ≤ a = next.due in
      advances_rest a b mid (max (timers.due t) reached) end later a_b (omega (arith, due, r_a)) rest
      (runs_first b thing reached later whole t mid (next_later timers turn thing a b t a_b next) ran)

  -- advancing leads to one thing
  pub to_one : (to : ℕ) (w : W) (reached : ℕ) (one other : W) → Advances timers runs to w reached one → Advances timers runs to w reached other → one ≡ other
  to_one to w r o other (Over thing reached none) b = over_one timers runs to thing reached other b none
  to_one to w r o other (Runs thing mid later reached t next ran rest) b =
      to_one to mid (max (timers.due t) reached) later other rest (runs_first to thing reached other b t mid next ran)

  pub no_more : (to : ℕ) (w : W) (reached : ℕ) (later : W) → Advances timers runs to w reached later → out.left later ≤ out.left w
  no_more to w r l (Over thing reached none) = omega arith
  no_more to w r l (Runs thing mid later reached t next ran rest) =
      let fewer = out.fewer thing mid t (max (timers.due t) reached) next.may ran in
      let more = no_more to mid (max (timers.due t) reached) later rest in
      omega (arith, fewer, more)

  -- where a timer is due there are fewer afterwards
  pub fewer_after : (to : ℕ) (w : W) (reached : ℕ) (later : W) → Advances timers runs to w reached later → (t : T) → timers.may_run w t → timers.due t ≤ to → out.left later < out.left w
  fewer_after to w r l (Over thing reached none) t may due = absurd (let late : to < timers.due t = none t may in omega (arith, late, due))
  fewer_after to w r l (Runs thing mid later reached first next ran rest) t may due =
      let fewer = out.fewer thing mid first (max (timers.due first) reached) next.may ran in
      let more = no_more to mid (max (timers.due first) reached) later rest in
      omega (arith, fewer, more)
