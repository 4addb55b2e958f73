use Rattle.std.proofs.Common.{◌≡◌, IsUtf8, chars, Some}
use Rattle.std.specs.Prelude.{map}
use Rattle.std.specs.Str.Iter.{chars_rest}
use Rattle.interaction.specs.Writing.{written}
use Rattle.interaction.proofs.lines.Lines.write.Given as goal

abbrev pub invariant-loop-character : goal.invariant-loop-character
invariant-loop-character l = record {
  utf8 : IsUtf8 (chars_rest l.character-iterator);
  same : written l.fn.self (map Some (chars l.fn.text)) ≡ written l.self (map Some (chars (chars_rest l.character-iterator)));
}
