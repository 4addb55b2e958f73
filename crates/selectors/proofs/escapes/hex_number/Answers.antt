use Rattle.std.proofs.Common.{◌≡◌, ℕ, ◌+◌, ◌-◌, ◌*◌, ◌^◌, ◌<◌, ◌≤◌, true, List, ◌∷◌, ap, sym, ◌∙◌, arith, lit<, lit≤, add-one}
use Rattle.std.proofs.Math.Nat.{pow-le-pow_right, pow-suc}
use Rattle.std.specs.Char.{is_ascii_hexdigit, digit_value}
use Rattle.std.specs.Str.Parse.{digits_value_after}
use Rattle.selectors.specs.Reading.{front, behind}
use Rattle.selectors.proofs.Fronts.{front_next, behind_next, front_end, behind_end, nothing}
use Rattle.selectors.proofs.escapes.hex_number.Goals as goal

small_power : (n i : ℕ) → n < 16 ^ i → i < 6 → n < 1048576
small_power n i below few = let le : i ≤ 5 = omega arith in let h : 16 ^ i ≤ 16 ^ 5 = pow-le-pow_right (lit< tt) le in let e : 16 ^ 5 ≤ 1048576 = lit≤ tt in omega (arith, h, e)

small_next : (n i d : ℕ) → n < 16 ^ i → d < 16 → n * 16 + d < 16 ^ (i + 1)
small_next n i d below digit = let e : 16 ^ (i + 1) ≡ 16 ^ i * 16 = rw add-one (pow-suc 16 i) in omega (arith, e)

number_next : (number i digit c whole : ℕ) (rest after : List ℕ) → digits_value_after 16 number (front is_ascii_hexdigit (6 - i) rest) ≡ whole → rest ≡ c ∷ after → i < 6 → is_ascii_hexdigit c ≡ true → digit ≡ digit_value c
    → digits_value_after 16 (number * 16 + digit) (front is_ascii_hexdigit (6 - (i + 1)) after) ≡ whole
number_next number i digit c whole rest after so_far split within passes value =
    ap (λ d. digits_value_after 16 (number * 16 + d) (front is_ascii_hexdigit (6 - (i + 1)) after)) value
    ∙ (sym (ap (digits_value_after 16 number) (ap (front is_ascii_hexdigit (6 - i)) split ∙ front_next is_ascii_hexdigit 6 i c after within passes)) ∙ so_far)

pub overflow_mul-number : goal.overflow_mul-number
overflow_mul-number c = let h : c.loop-i.number < 1048576 = small_power _ _ c.loop-i.invariant.small (omega arith) in omega (arith, h)

pub overflow_add-number : goal.overflow_add-number
overflow_add-number c = let h : c.loop-i.number < 1048576 = small_power _ _ c.loop-i.invariant.small (omega arith) in omega (arith, h, c.in-Some-hex_digit.ensures.2)

pub loop-i-preserved : goal.loop-i-preserved
loop-i-preserved c = record {
  number = number_next _ _ _ _ _ _ _ c.loop-i.invariant.number c.in-Some.ensures.cases.0 c.loop-i-test.true c.in-Some-hex_digit.ensures.0 c.in-Some-hex_digit.ensures.1;
  rest = sym (ap (behind is_ascii_hexdigit (6 - c.loop-i._i)) c.in-Some.ensures.cases.0 ∙ behind_next is_ascii_hexdigit 6 c.loop-i._i _ _ c.loop-i-test.true c.in-Some-hex_digit.ensures.0) ∙ c.loop-i.invariant.rest;
  small = small_next _ _ _ c.loop-i.invariant.small c.in-Some-hex_digit.ensures.2;
}

pub returns-in_default-clause-number : goal.returns-in_default-clause-number
returns-in_default-clause-number c = sym (ap (digits_value_after 16 c.loop-i.number) (ap (front is_ascii_hexdigit (6 - c.loop-i._i)) (nothing _ c.in_default.ensures.cases) ∙ front_end is_ascii_hexdigit (6 - c.loop-i._i))) ∙ c.loop-i.invariant.number

pub returns-in_default-clause-rest : goal.returns-in_default-clause-rest
returns-in_default-clause-rest c = nothing _ c.in_default.ensures.cases ∙ sym (behind_end is_ascii_hexdigit (6 - c.loop-i._i)) ∙ sym (ap (behind is_ascii_hexdigit (6 - c.loop-i._i)) (nothing _ c.in_default.ensures.cases)) ∙ c.loop-i.invariant.rest
