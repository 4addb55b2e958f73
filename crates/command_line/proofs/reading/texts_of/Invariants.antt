use Rattle.std.proofs.Common.{◌≡◌, map, take, true}
use Rattle.std.specs.List.{list_all}
use Rattle.std.specs.Str.{all_scalars, encode_utf8_all}
use Rattle.command_line.proofs.reading.texts_of.Given as goal

abbrev pub invariant-loop-word : goal.invariant-loop-word
invariant-loop-word l = record {
  same : map (λ text. text.now) l.texts.items ≡ map encode_utf8_all (take l.word-index l.words);
  texts : list_all all_scalars (take l.word-index l.words) ≡ true;
}
