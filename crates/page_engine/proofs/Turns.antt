-- Timers by their turns stand in the order in which they run, and one that is made later stands after its equals.
use Rattle.std.proofs.Common.{◌≡◌, ◌≢◌, ◌<◌, ◌+◌, ℕ, zero, suc, List, [], ◌∷◌, Some, None, slice_get, sym, ap, refl, subst, arith}
use Rattle.std.specs.Prelude.{if◌then◌else◌}
use Rattle.std.specs.BTreeMap.{insert_entry}
use Rattle.std.specs.List.{AllByRecursion}
use Rattle.std.specs.List.Sorted.{IsStrictlySortedBy}
use Rattle.std.specs.Map.{keys_of}
use Rattle.std.specs.Ordering.{nat_cmp, ordering_then, is_lt, match_ordering}
use Rattle.std.specs.declared.cmp.Ordering.{Ordering}
use Rattle.std.specs.declared.cmp.Ordering.TheVariants.{Less, Equal, Greater}
use Rattle.std.proofs.lemmas.Cmp.{ranked}
use Rattle.std.proofs.lemmas.Map.Keys.{sorted_head, sorted_tail}
use Rattle.page_engine.specs.Timers.{Timer, Turn, AreInOrder, due_order, first_due, timers_in, with_timer}
use Rattle.page_engine.specs.declared.effect.Effect.{Effect}

abbrev pub turn_order : Turn → Turn → Ordering
turn_order a b = ordering_then (due_order a.0 b.0) (nat_cmp a.1 b.1)

abbrev Entry : Type 0
Entry = Turn × List Effect

-- each was made before so many were
abbrev pub MadeBy : ℕ → List Entry → Type 0
MadeBy made entries = AllByRecursion (λ (entry : Entry). entry.0.1 < made) entries

-- ---- a timer more

later : (a b : ℕ) → b < a → nat_cmp a b ≡ Greater
later a b h = by (nat_cmp a b) refl
  where
    by : (o : Ordering) → nat_cmp a b ≡ o → nat_cmp a b ≡ Greater
    by Less is = let less : a < b = ranked a b Less (sym is) in absurd (omega arith)
    by Equal is = let same : a ≡ b = ranked a b Equal (sym is) in absurd (omega arith)
    by Greater is = is

module _ (due : ℕ × ℕ) (made : ℕ) (effects : List Effect) where
  abbrev put : List Entry → List Entry
  put entries = insert_entry turn_order entries (due, made) effects

  abbrev put_at : Ordering → Entry → List Entry → List Entry
  put_at o e es = match_ordering o (((due, made), effects) ∷ e ∷ es) ((e.0, effects) ∷ es) (e ∷ put es)

  abbrev stood : Ordering → Entry → List Entry → List Timer
  stood o e es = if is_lt o then (due, effects) ∷ (e.0.0, e.1) ∷ timers_in es else (e.0.0, e.1) ∷ with_timer (due, effects) (timers_in es)

  put_by : (o p : Ordering) (e : Entry) (es : List Entry) → p ≡ Greater → timers_in (put es) ≡ with_timer (due, effects) (timers_in es) → timers_in (put_at (ordering_then o p) e es) ≡ stood o e es
  put_by Less p e es is rest = refl
  put_by Equal Less e es is rest = absurd (cc)
  put_by Equal Equal e es is rest = absurd (cc)
  put_by Equal Greater e es is rest = ap (λ (ts : List Timer). (e.0.0, e.1) ∷ ts) rest
  put_by Greater p e es is rest = ap (λ (ts : List Timer). (e.0.0, e.1) ∷ ts) rest

  pub put_timer : (entries : List Entry) → MadeBy made entries → timers_in (put entries) ≡ with_timer (due, effects) (timers_in entries)
  put_timer [] all = refl
  put_timer (e ∷ es) all = put_by (due_order due e.0.0) (nat_cmp made e.0.1) e es (later made e.0.1 all.0) (put_timer es all.1)

  more : (entries : List Entry) → MadeBy made entries → MadeBy (made + 1) entries
  more [] all = tt
  more (e ∷ es) all = (let h : e.0.1 < made = all.0 in omega arith, more es all.1)

  put_made_by : (o : Ordering) (e : Entry) (es : List Entry) → MadeBy (made + 1) (e ∷ es) → MadeBy (made + 1) (put es) → MadeBy (made + 1) (put_at o e es)
  put_made_by Less e es all rest = (omega arith, all)
  put_made_by Equal e es all rest = all
  put_made_by Greater e es all rest = (all.0, rest)

  pub put_made : (entries : List Entry) → MadeBy made entries → MadeBy (made + 1) (put entries)
  put_made [] all = (omega arith, tt)
  put_made (e ∷ es) all = put_made_by (turn_order (due, made) e.0) e es (more (e ∷ es) all) (put_made es all.1)

-- ---- the order

not_greater : (o p : Ordering) → ordering_then o p ≡ Less → o ≢ Greater
not_greater Less p is g = cc
not_greater Equal p is g = cc
not_greater Greater p is g = cc

after_head : (a : Turn) (es : List Entry) → AllByRecursion (λ (b : Turn). turn_order a b ≡ Less) (keys_of es)
    → (place : ℕ) (other : Timer) → slice_get (timers_in es) place ≡ Some other → due_order a.0 other.0 ≢ Greater
after_head a [] all place other here = absurd (let none : None ≡ Some other = here in cc)
after_head a (e ∷ es) all zero other here =
    let same : (e.0.0, e.1) ≡ other = cc in
    let P : Timer → Type 0 = λ t. due_order a.0 t.0 ≢ Greater in
    subst P same (not_greater (due_order a.0 e.0.0) (nat_cmp a.1 e.0.1) all.0)
after_head a (e ∷ es) all (suc place) other here = after_head a es all.1 place other here

pub in_order : (es : List Entry) → IsStrictlySortedBy turn_order (keys_of es) → AreInOrder (timers_in es)
in_order [] sorted early late one other less here there = absurd (let none : None ≡ Some one = here in cc)
in_order (e ∷ es) sorted zero zero one other less here there = absurd (omega arith)
in_order (e ∷ es) sorted zero (suc late) one other less here there =
    let same : (e.0.0, e.1) ≡ one = cc in
    let P : Timer → Type 0 = λ t. due_order t.0 other.0 ≢ Greater in
    subst P same (after_head e.0 es (sorted_head turn_order e.0 (keys_of es) sorted) late other there)
in_order (e ∷ es) sorted (suc early) zero one other less here there = absurd (omega arith)
in_order (e ∷ es) sorted (suc early) (suc late) one other less here there =
    in_order es (sorted_tail turn_order e.0 (keys_of es) sorted) early late one other (omega arith) here there

-- ---- the first

pub first_of : (es : List Entry) (turn : Turn) (effects : List Effect) → slice_get es 0 ≡ Some (turn, effects)
    → Some (record { moment = turn.0.0; number = turn.0.1 }) ≡ first_due (timers_in es)
first_of [] turn effects here = absurd (let none : None ≡ Some (turn, effects) = here in cc)
first_of (e ∷ es) turn effects here = let same : (turn, effects) ≡ e = cc in ap (λ (x : Entry). Some (record { moment = x.0.0.0; number = x.0.0.1 })) same
