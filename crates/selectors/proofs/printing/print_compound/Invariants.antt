use Rattle.std.proofs.Common.{◌≡◌, ◌++◌, drop, true}
use Rattle.std.specs.List.{flat_map, list_all}
use Rattle.selectors.specs.PrintingSelectors.{printed_simple}
use Rattle.selectors.specs.WellFormed.{is_simple}
use Rattle.selectors.proofs.printing.print_compound.Given as goal

-- what was added, and what is to be added for the rest, which may be printed
abbrev pub invariant-loop-simple : goal.invariant-loop-simple
invariant-loop-simple l = record {
  whole : l.out ++ flat_map printed_simple (drop l.simple-index l.simple-items) ≡ l.fn.out ++ flat_map printed_simple l.fn.compound;
  good : list_all is_simple (drop l.simple-index l.simple-items) ≡ true;
}
