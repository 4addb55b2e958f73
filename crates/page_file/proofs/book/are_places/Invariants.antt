use Rattle.std.proofs.Common.{◌≡◌, true, take, nat_lt}
use Rattle.std.specs.List.{list_all}
use Rattle.page_file.proofs.book.are_places.Given as goal

abbrev pub invariant-loop-place : goal.invariant-loop-place
invariant-loop-place l = list_all (λ place. nat_lt place l.count) (take l.place-index l.place-items) ≡ true
