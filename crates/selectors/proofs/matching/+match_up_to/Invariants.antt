use Rattle.std.proofs.Common.{◌≡◌, ◌-◌, drop, take, reverse}
use Rattle.std.specs.List.{list_any}
use Rattle.selectors.specs.Meets.{meets_all}
use Rattle.selectors.specs.Named.{matches_from}
use Rattle.selectors.proofs.matching.+match_up_to.Given as goal

abbrev pub decreases-match_up_to : goal.decreases-match_up_to
decreases-match_up_to l = l.joins

abbrev pub invariant-loop-at : goal.invariant-loop-at
invariant-loop-at l =
    let rows = l.document.rows in
    let test = matches_from (meets_all rows l.complex.first) rows (reverse (take (l.joins - 1) l.complex.rest)) in
    list_any test l.at-items ≡ list_any test (drop l.at-index l.at-items)
