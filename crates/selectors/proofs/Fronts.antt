-- The longest front that passes a test, up to a number of items, and what is behind it.
use Rattle.std.proofs.Common.{◌≡◌, ℕ, zero, suc, ◌+◌, ◌-◌, ◌<◌, ◌≤◌, Bool, true, false, cond, List, [], ◌∷◌, ◌++◌, length, ap, refl, arith, ◌⊎◌, inl, inr}
use Rattle.std.specs.List.{list_all}
use Rattle.std.proofs.lemmas.Bool.{and_parts}
use Rattle.selectors.specs.Characters.{begins}
use Rattle.selectors.specs.Reading.{front, behind}

-- a fact for each value of a test
pub split : (b : Bool) (P : Bool → Type 0) → (b ≡ true → P true) → (b ≡ false → P false) → P b
split true P left right = left refl
split false P left right = right refl

pub front_whole : (test : ℕ → Bool) (most : ℕ) (text : List ℕ) → text ≡ front test most text ++ behind test most text
front_whole test zero text = refl
front_whole test (suc most) [] = refl
front_whole test (suc most) (c ∷ text) = split (test c) (λ b. c ∷ text ≡ cond b (c ∷ front test most text) [] ++ cond b (behind test most text) (c ∷ text))
    (λ _. ap (λ ys. c ∷ ys) (front_whole test most text)) (λ _. refl)

pub front_all : (test : ℕ → Bool) (most : ℕ) (text : List ℕ) → list_all test (front test most text) ≡ true
front_all test zero text = refl
front_all test (suc most) [] = refl
front_all test (suc most) (c ∷ text) = split (test c) (λ b. list_all test (cond b (c ∷ front test most text) []) ≡ true) (λ e. rw e (front_all test most text)) (λ _. refl)

pub front_few : (test : ℕ → Bool) (most : ℕ) (text : List ℕ) → length (front test most text) ≤ most
front_few test zero text = omega arith
front_few test (suc most) [] = omega arith
front_few test (suc most) (c ∷ text) = split (test c) (λ b. length (cond b (c ∷ front test most text) []) ≤ suc most) (λ _. let h : length (front test most text) ≤ most = front_few test most text in omega arith) (λ _. omega arith)

-- it is as long as may be, or nothing behind it passes
pub front_stops : (test : ℕ → Bool) (most : ℕ) (text : List ℕ) → (length (front test most text) ≡ most) ⊎ (begins test (behind test most text) ≡ false)
front_stops test zero text = inl refl
front_stops test (suc most) [] = inr refl
front_stops test (suc most) (c ∷ text) = split (test c) (λ b. (length (cond b (c ∷ front test most text) []) ≡ suc most) ⊎ (begins test (cond b (behind test most text) (c ∷ text)) ≡ false))
    (λ _. elim (front_stops test most text) [ inl h ↦ inl (ap suc h) | inr h ↦ inr h ]) (λ e. inr e)

-- a list of items that pass, before what doesn't, is the front
pub front_is : (test : ℕ → Bool) (most : ℕ) (items after : List ℕ) → list_all test items ≡ true → length items ≤ most → (length items ≡ most) ⊎ (begins test after ≡ false)
    → (front test most (items ++ after) ≡ items) × (behind test most (items ++ after) ≡ after)
front_is test zero [] after each few stops = (refl, refl)
front_is test zero (x ∷ items) after each few stops = absurd (omega arith)
front_is test (suc most) [] [] each few stops = (refl, refl)
front_is test (suc most) [] (c ∷ after) each few stops = elim stops as (λ _. (front test (suc most) (c ∷ after) ≡ []) × (behind test (suc most) (c ∷ after) ≡ c ∷ after))
    [ inl h ↦ absurd (omega arith) | inr h ↦ (rw h refl, rw h refl) ]
front_is test (suc most) (x ∷ items) after each few stops =
    let parts : (test x ≡ true) × (list_all test items ≡ true) = and_parts (test x) (list_all test items) each in
    let rest : (front test most (items ++ after) ≡ items) × (behind test most (items ++ after) ≡ after) =
    front_is test most items after parts.1 (omega arith) (elim stops as (λ _. (length items ≡ most) ⊎ (begins test after ≡ false)) [ inl h ↦ inl (omega arith) | inr h ↦ inr h ]) in
    (rw parts.0 (ap (λ ys. x ∷ ys) rest.0), rw parts.0 rest.1)

-- ---- one item after another

pub nothing : (text : List ℕ) → length text ≡ 0 → text ≡ []
nothing [] none = refl
nothing (c ∷ text) none = absurd (omega arith)

pub front_next : (test : ℕ → Bool) (most i c : ℕ) (after : List ℕ) → i < most → test c ≡ true → front test (most - i) (c ∷ after) ≡ c ∷ front test (most - (i + 1)) after
front_next test most i c after within passes = let e : most - i ≡ suc (most - (i + 1)) = omega arith in rw e (rw passes refl)

pub behind_next : (test : ℕ → Bool) (most i c : ℕ) (after : List ℕ) → i < most → test c ≡ true → behind test (most - i) (c ∷ after) ≡ behind test (most - (i + 1)) after
behind_next test most i c after within passes = let e : most - i ≡ suc (most - (i + 1)) = omega arith in rw e (rw passes refl)

pub front_stop : (test : ℕ → Bool) (most c : ℕ) (after : List ℕ) → test c ≡ false → front test most (c ∷ after) ≡ []
front_stop test zero c after fails = refl
front_stop test (suc most) c after fails = rw fails refl

pub behind_stop : (test : ℕ → Bool) (most c : ℕ) (after : List ℕ) → test c ≡ false → behind test most (c ∷ after) ≡ c ∷ after
behind_stop test zero c after fails = refl
behind_stop test (suc most) c after fails = rw fails refl

pub front_end : (test : ℕ → Bool) (most : ℕ) → front test most [] ≡ []
front_end test zero = refl
front_end test (suc most) = refl

pub behind_end : (test : ℕ → Bool) (most : ℕ) → behind test most [] ≡ []
behind_end test zero = refl
behind_end test (suc most) = refl

pub front_full : (test : ℕ → Bool) (most i : ℕ) (text : List ℕ) → most ≤ i → front test (most - i) text ≡ []
front_full test most i text past = let e : most - i ≡ 0 = omega arith in rw e refl

pub behind_full : (test : ℕ → Bool) (most i : ℕ) (text : List ℕ) → most ≤ i → behind test (most - i) text ≡ text
behind_full test most i text past = let e : most - i ≡ 0 = omega arith in rw e refl

pub ruleset front_steps = (front_next, behind_next, front_stop, behind_stop, front_end, behind_end, front_full, behind_full)
