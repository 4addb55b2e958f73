use Rattle.std.proofs.Common.{◌≡◌, drop, codes}
use Rattle.std.specs.List.{find}
use Rattle.std.specs.Str.{bytes_eq, encode_utf8_all}
use Rattle.page_file.proofs.links.source.Given as goal

abbrev pub invariant-loop-name : goal.invariant-loop-name
invariant-loop-name l = find (λ a. bytes_eq (encode_utf8_all a.0) (codes "src")) l.name-items ≡ find (λ a. bytes_eq (encode_utf8_all a.0) (codes "src")) (drop l.name-index l.name-items)
