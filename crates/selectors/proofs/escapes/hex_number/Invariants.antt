use Rattle.std.proofs.Common.{◌≡◌, ◌-◌, ◌^◌, ◌<◌}
use Rattle.std.specs.Char.{is_ascii_hexdigit}
use Rattle.std.specs.Str.Parse.{digits_value, digits_value_after}
use Rattle.selectors.specs.Reading.{front, behind}
use Rattle.selectors.proofs.escapes.hex_number.Given as goal

abbrev pub invariant-loop-i : goal.invariant-loop-i
invariant-loop-i l = record {
  number : digits_value_after 16 l.number (front is_ascii_hexdigit (6 - l._i) l.rest) ≡ digits_value 16 (front is_ascii_hexdigit 6 l.fn.text);
  rest : behind is_ascii_hexdigit (6 - l._i) l.rest ≡ behind is_ascii_hexdigit 6 l.fn.text;
  small : l.number < 16 ^ l._i;
}
