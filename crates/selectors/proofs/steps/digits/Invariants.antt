use Rattle.std.proofs.Common.{◌≡◌, ◌+◌, ◌-◌, ◌^◌, ◌<◌, length}
use Rattle.std.specs.Char.{is_ascii_digit}
use Rattle.std.specs.Str.Parse.{digits_value, digits_value_after}
use Rattle.selectors.specs.Reading.{front, behind}
use Rattle.selectors.proofs.steps.digits.Given as goal

abbrev pub invariant-loop-i : goal.invariant-loop-i
invariant-loop-i l = record {
  value : digits_value_after 10 l.value (front is_ascii_digit (9 - l._i) l.rest) ≡ digits_value 10 (front is_ascii_digit 9 l.fn.text);
  count : l.count + length (front is_ascii_digit (9 - l._i) l.rest) ≡ length (front is_ascii_digit 9 l.fn.text);
  rest : behind is_ascii_digit (9 - l._i) l.rest ≡ behind is_ascii_digit 9 l.fn.text;
  small : l.value < 10 ^ l._i;
  few : l.count ≡ l._i;
}
