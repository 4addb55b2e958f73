-- The timers of a page run in turn, and run out: so what is true of all advancing is true of a page's.
use Rattle.std.proofs.Common.{◌≡◌, ◌<◌, ◌≤◌, ◌∙◌, ◌+◌, ◌↔◌, ℕ, zero, suc, List, [], ◌∷◌, Some, None, slice_get, length, sym, ap, refl, subst, arith}
use Rattle.std.specs.Cmp.{IsTotalOrder}
use Rattle.std.specs.List.{Contains, remove, slice_index_or}
use Rattle.std.specs.Ordering.{nat_cmp, ordering_then}
use Rattle.std.specs.declared.cmp.Ordering.{Ordering}
use Rattle.std.specs.declared.cmp.Ordering.TheVariants.{Less, Equal, Greater}
use Rattle.std.proofs.lemmas.Cmp.{ranked, then_total, on_total, nat_cmp_total}
use Rattle.std.proofs.lemmas.List.Edits.{length-remove}
use Rattle.std.proofs.lemmas.Option.{slice_get_within}
use Rattle.page_engine.proofs.MadeLemmas.{quiet_effects}
use Rattle.page_engine.specs.Fitting.{timed}
use Rattle.page_engine.specs.Scene.{PageState, scene_of}
use Rattle.page_engine.specs.Timers.{Timer, due_order}
use Rattle.waits.specs.Advancing.{AreInTurn, RunOut}
use Rattle.waits.proofs.AdvancingLaws as advancing
use Rattle.remote_end.specs.Advance.{Pending, page_timers, ran, Ran, PageAdvances}
use Rattle.remote_end.proofs.DueOrder.{due_total}
use Rattle.remote_end.specs.declared.setting.Setting.{Setting}

-- ---- their order

timers_total : IsTotalOrder page_timers.order
timers_total = then_total (on_total (λ (t : Pending). t.timer.0) due_total) (on_total (λ (t : Pending). t.place) nat_cmp_total)

-- what is due earlier runs first
due_earlier : (a b : Pending) → a.timer.0.0 < b.timer.0.0 → page_timers.order a b ≡ Less
due_earlier a b h = by (nat_cmp a.timer.0.0 b.timer.0.0) refl
  where
    by : (r : Ordering) → r ≡ nat_cmp a.timer.0.0 b.timer.0.0 → page_timers.order a b ≡ Less
    by Less is = ap (λ (o : Ordering). ordering_then (ordering_then o (nat_cmp a.timer.0.1 b.timer.0.1)) (nat_cmp a.place b.place)) (sym is)
    by Equal is = absurd (let e : a.timer.0.0 ≡ b.timer.0.0 = ranked a.timer.0.0 b.timer.0.0 Equal is in omega (arith, e, h))
    by Greater is = absurd (let e : b.timer.0.0 < a.timer.0.0 = ranked a.timer.0.0 b.timer.0.0 Greater is in omega (arith, e, h))

pending_same : (a b : Pending) → a.place ≡ b.place → a.timer ≡ b.timer → a ≡ b
pending_same a b places timers =
    let first : a ≡ record { place = b.place; timer = a.timer } = ap (λ (i : ℕ). let t : Pending = record { place = i; timer = a.timer } in t) places in
    let second : record { place = b.place; timer = a.timer } ≡ b = ap (λ (x : Timer). let t : Pending = record { place = b.place; timer = x } in t) timers in
    first ∙ second

then_equal : (o k : Ordering) → ordering_then o k ≡ Equal → k ≡ Equal
then_equal Less k e = absurd (let f : Less ≡ Equal = e in cc)
then_equal Equal k e = e
then_equal Greater k e = absurd (let f : Greater ≡ Equal = e in cc)

-- two that are equal in it stand at one place
apart : (page : PageState) (a b : Pending) → slice_get page.pending a.place ≡ Some a.timer → slice_get page.pending b.place ≡ Some b.timer → page_timers.order a b ≡ Equal → a ≡ b
apart page a b here there e =
    let places : a.place ≡ b.place = ranked a.place b.place Equal (sym (then_equal (due_order a.timer.0 b.timer.0) (nat_cmp a.place b.place) e)) in
    let timers : Some a.timer ≡ Some b.timer = sym here ∙ ap (λ (i : ℕ). slice_get page.pending i) places ∙ there in
    pending_same a b places cc

-- ---- all of them

abbrev placed : ℕ → List Timer → List Pending
placed i [] = []
placed i (t ∷ ts) = record { place = i; timer = t } ∷ placed (suc i) ts

are_placed : (i k : ℕ) (ts : List Timer) (t : Pending) → t.place ≡ i + k → slice_get ts k ≡ Some t.timer → Contains (placed i ts) t
are_placed i k [] t place here = absurd (let f : None ≡ Some t.timer = here in cc)
are_placed i zero (x ∷ ts) t place here = (0, omega arith, pending_same (record { place = i; timer = x }) t (omega (arith, place)) cc)
are_placed i (suc k) (x ∷ ts) t place here = let rest = are_placed (suc i) k ts t (omega (arith, place)) here in (suc rest.0, omega (arith, rest.1), rest.2)

from_placed : (i j : ℕ) (ts : List Timer) (t : Pending) → j < length (placed i ts) → slice_index_or (placed i ts) j t ≡ t → (k : ℕ) × (t.place ≡ i + k) × (slice_get ts k ≡ Some t.timer)
from_placed i j [] t within here = absurd (omega (arith, within))
from_placed i zero (x ∷ ts) t within here =
    let place : i ≡ t.place = ap (λ (p : Pending). p.place) here in
    (0, omega (arith, place), ap (λ (p : Pending). Some p.timer) here)
from_placed i (suc j) (x ∷ ts) t within here =
    let rest = from_placed (suc i) j ts t (omega (arith, within)) here in
    let place : t.place ≡ suc i + rest.0 = rest.1 in
    (suc rest.0, omega (arith, place), rest.2)

all_placed : (page : PageState) (t : Pending) → (slice_get page.pending t.place ≡ Some t.timer) ↔ Contains (placed 0 page.pending) t
all_placed page t = (λ here. are_placed 0 t.place page.pending t (omega arith) here, back)
  where
    back : Contains (placed 0 page.pending) t → slice_get page.pending t.place ≡ Some t.timer
    back holds =
        let at = from_placed 0 holds.0 page.pending t holds.1 holds.2 in
        let place : at.0 ≡ t.place = (let e : t.place ≡ 0 + at.0 = at.1 in omega (arith, e)) in
        let P : ℕ → Type 0 = λ i. slice_get page.pending i ≡ Some t.timer in
        subst P place at.2

pub in_turn : AreInTurn page_timers
in_turn = record { total = timers_total; by_due = due_earlier; apart = apart; all = λ page. placed 0 page.pending; are_all = all_placed }

-- ---- one that runs starts none

one_fewer : (page : PageState) (t : Pending) (moment : ℕ) → slice_get page.pending t.place ≡ Some t.timer → length (ran page t moment).pending < length page.pending
one_fewer page t moment here =
    let kept : (ran page t moment).pending ≡ remove page.pending t.place = (quiet_effects (record { now = moment; first = 0 }) timed (record (scene_of page) { pending = remove page.pending t.place }) t.timer.1 refl).pending in
    let shorter = length-remove page.pending t.place (slice_get_within page.pending t.place t.timer here) in
    omega (arith, ap (λ (l : List Timer). length l) kept, shorter)

pub run_out : (setting : Setting) → RunOut page_timers (Ran setting)
run_out setting = record {
  left = λ page. length page.pending;
  fewer = λ page mid t moment here is. (let less = one_fewer page t moment here in let same : length mid.pending ≡ length (ran page t moment).pending = ap (λ (p : PageState). length p.pending) is in omega (arith, less, same));
  there = λ page t moment here. (ran page t moment, refl);
  one = λ page mid other t moment one two. one ∙ sym two;
}

-- where a timer is due it runs
pub fewer_after : (setting : Setting) (to : ℕ) (page : PageState) (reached : ℕ) (other : PageState) → PageAdvances setting to page reached other
    → (place : ℕ) (timer : Timer) → slice_get page.pending place ≡ Some timer → timer.0.0 ≤ to → length other.pending < length page.pending
unfolding run_out
fewer_after setting to page reached other advances place timer here due = advancing.fewer_after page_timers (Ran setting) in_turn (run_out setting) to page reached other advances (record { place = place; timer = timer }) here due
