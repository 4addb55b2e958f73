use Rattle.std.proofs.Common.{◌≡◌, drop}
use Rattle.std.specs.Str.{bytes_eq, str_to_ascii_lowercase}
use Rattle.selectors.proofs.pseudo.is_word.Given as goal

abbrev pub invariant-loop-byte : goal.invariant-loop-byte
invariant-loop-byte l = bytes_eq (str_to_ascii_lowercase l.rest) (drop l.byte-index l.byte-items) ≡ bytes_eq (str_to_ascii_lowercase l.written) l.word
