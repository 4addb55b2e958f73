use Rattle.std.proofs.Common.{◌≡◌, true, take}
use Rattle.std.specs.List.{list_all, list_any}
use Rattle.std.specs.Str.{bytes_eq, encode_utf8_all}
use Rattle.page_file.proofs.members.has_only.Given as goal

abbrev pub invariant-loop-member : goal.invariant-loop-member
invariant-loop-member l = list_all (λ m. list_any (λ n. bytes_eq (encode_utf8_all m.0) n.now) l.names) (take l.member-index l.member-items) ≡ true
