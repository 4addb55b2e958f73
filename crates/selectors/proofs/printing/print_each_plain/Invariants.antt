use Rattle.std.proofs.Common.{◌≡◌, ◌++◌, drop, true}
use Rattle.std.specs.List.{flat_map, list_all}
use Rattle.selectors.specs.PrintingSelectors.{printed_plain}
use Rattle.selectors.specs.WellFormed.{is_plain}
use Rattle.selectors.proofs.printing.print_each_plain.Given as goal

-- what was added, and what is to be added for the rest, which may be printed
abbrev pub invariant-loop-simple : goal.invariant-loop-simple
invariant-loop-simple l = record {
  whole : l.out ++ flat_map printed_plain (drop l.simple-index l.simple-items) ≡ l.fn.out ++ flat_map printed_plain l.fn.compound;
  good : list_all is_plain (drop l.simple-index l.simple-items) ≡ true;
}
