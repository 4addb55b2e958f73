use Rattle.std.proofs.Common.{◌≡◌, ◌++◌, drop, true}
use Rattle.std.specs.List.{flat_map, list_all}
use Rattle.selectors.specs.PrintingSelectors.{printed_join}
use Rattle.selectors.specs.WellFormed.{is_joined}
use Rattle.selectors.proofs.printing.print_joins.Given as goal

-- what was added, and what is to be added for the rest, which may be printed
abbrev pub invariant-loop-join : goal.invariant-loop-join
invariant-loop-join l = record {
  whole : l.out ++ flat_map printed_join (drop l.join-index l.join-items) ≡ l.fn.out ++ flat_map printed_join l.fn.joins;
  good : list_all is_joined (drop l.join-index l.join-items) ≡ true;
}
