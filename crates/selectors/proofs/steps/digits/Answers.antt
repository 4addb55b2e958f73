use Rattle.std.proofs.Common.{◌≡◌, ℕ, suc, ◌+◌, ◌-◌, ◌*◌, ◌^◌, ◌<◌, ◌≤◌, true, List, ◌∷◌, length, ap, sym, ◌∙◌, arith, lit<, lit≤, add-one}
use Rattle.std.proofs.Math.Nat.{pow-le-pow_right, pow-suc}
use Rattle.std.specs.Char.{is_ascii_digit, digit_value}
use Rattle.std.specs.Str.Parse.{digits_value_after}
use Rattle.selectors.specs.Reading.{front, behind}
use Rattle.selectors.proofs.Fronts.{front_next, behind_next, front_end, behind_end, nothing}
use Rattle.selectors.proofs.steps.digits.Goals as goal

small_power : (n i : ℕ) → n < 10 ^ i → i < 9 → n < 100000000
small_power n i below few = let le : i ≤ 8 = omega arith in let h : 10 ^ i ≤ 10 ^ 8 = pow-le-pow_right (lit< tt) le in let e : 10 ^ 8 ≤ 100000000 = lit≤ tt in omega (arith, h, e)

small_next : (n i d : ℕ) → n < 10 ^ i → d < 10 → n * 10 + d < 10 ^ (i + 1)
small_next n i d below digit = let e : 10 ^ (i + 1) ≡ 10 ^ i * 10 = rw add-one (pow-suc 10 i) in omega (arith, e)

front_is_next : (i c : ℕ) (rest after : List ℕ) → rest ≡ c ∷ after → i < 9 → is_ascii_digit c ≡ true → front is_ascii_digit (9 - i) rest ≡ c ∷ front is_ascii_digit (9 - (i + 1)) after
front_is_next i c rest after split within passes = ap (front is_ascii_digit (9 - i)) split ∙ front_next is_ascii_digit 9 i c after within passes

value_next : (value i digit c whole : ℕ) (rest after : List ℕ) → digits_value_after 10 value (front is_ascii_digit (9 - i) rest) ≡ whole → rest ≡ c ∷ after → i < 9 → is_ascii_digit c ≡ true → digit ≡ digit_value c
    → digits_value_after 10 (value * 10 + digit) (front is_ascii_digit (9 - (i + 1)) after) ≡ whole
value_next value i digit c whole rest after so_far split within passes is =
    ap (λ d. digits_value_after 10 (value * 10 + d) (front is_ascii_digit (9 - (i + 1)) after)) is
    ∙ (sym (ap (digits_value_after 10 value) (front_is_next i c rest after split within passes)) ∙ so_far)

count_next : (count i c whole : ℕ) (rest after : List ℕ) → count + length (front is_ascii_digit (9 - i) rest) ≡ whole → rest ≡ c ∷ after → i < 9 → is_ascii_digit c ≡ true
    → count + 1 + length (front is_ascii_digit (9 - (i + 1)) after) ≡ whole
count_next count i c whole rest after so_far split within passes = let e : length (front is_ascii_digit (9 - i) rest) ≡ suc (length (front is_ascii_digit (9 - (i + 1)) after)) = ap length (front_is_next i c rest after split within passes) in omega (arith, e)

pub overflow_mul-value : goal.overflow_mul-value
overflow_mul-value c = let h : c.loop-i.value < 100000000 = small_power _ _ c.loop-i.invariant.small (omega arith) in omega (arith, h)

pub overflow_add-value : goal.overflow_add-value
overflow_add-value c = let h : c.loop-i.value < 100000000 = small_power _ _ c.loop-i.invariant.small (omega arith) in omega (arith, h, c.in-Some-decimal_digit.ensures.2)

pub loop-i-preserved : goal.loop-i-preserved
loop-i-preserved c = record {
  value = value_next _ _ _ _ _ _ _ c.loop-i.invariant.value c.in-Some.ensures.cases.0 c.loop-i-test.true c.in-Some-decimal_digit.ensures.0 c.in-Some-decimal_digit.ensures.1;
  count = count_next _ _ _ _ _ _ c.loop-i.invariant.count c.in-Some.ensures.cases.0 c.loop-i-test.true c.in-Some-decimal_digit.ensures.0;
  rest = sym (ap (behind is_ascii_digit (9 - c.loop-i._i)) c.in-Some.ensures.cases.0 ∙ behind_next is_ascii_digit 9 c.loop-i._i _ _ c.loop-i-test.true c.in-Some-decimal_digit.ensures.0) ∙ c.loop-i.invariant.rest;
  small = small_next _ _ _ c.loop-i.invariant.small c.in-Some-decimal_digit.ensures.2;
  few = omega arith;
}

pub returns-in_default-clause-value : goal.returns-in_default-clause-value
returns-in_default-clause-value c = sym (ap (digits_value_after 10 c.loop-i.value) (ap (front is_ascii_digit (9 - c.loop-i._i)) (nothing _ c.in_default.ensures.cases) ∙ front_end is_ascii_digit (9 - c.loop-i._i))) ∙ c.loop-i.invariant.value

pub returns-in_default-clause-count : goal.returns-in_default-clause-count
returns-in_default-clause-count c =
    let e : length (front is_ascii_digit (9 - c.loop-i._i) c.loop-i.rest.now) ≡ 0 = ap length (ap (front is_ascii_digit (9 - c.loop-i._i)) (nothing _ c.in_default.ensures.cases) ∙ front_end is_ascii_digit (9 - c.loop-i._i)) in
    omega (arith, e, c.loop-i.invariant.count)

pub returns-in_default-clause-rest : goal.returns-in_default-clause-rest
returns-in_default-clause-rest c = nothing _ c.in_default.ensures.cases ∙ sym (behind_end is_ascii_digit (9 - c.loop-i._i)) ∙ sym (ap (behind is_ascii_digit (9 - c.loop-i._i)) (nothing _ c.in_default.ensures.cases)) ∙ c.loop-i.invariant.rest
