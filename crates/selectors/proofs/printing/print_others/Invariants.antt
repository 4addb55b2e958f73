use Rattle.std.proofs.Common.{◌≡◌, ◌++◌, drop, true}
use Rattle.std.specs.List.{flat_map, list_all}
use Rattle.selectors.specs.PrintingSelectors.{printed_next}
use Rattle.selectors.specs.WellFormed.{is_complex}
use Rattle.selectors.proofs.printing.print_others.Given as goal

-- what was added, and what is to be added for the rest, which may be printed
abbrev pub invariant-loop-complex : goal.invariant-loop-complex
invariant-loop-complex l = record {
  whole : l.out ++ flat_map printed_next (drop l.complex-index l.others) ≡ l.fn.out ++ flat_map printed_next l.fn.others;
  good : list_all is_complex (drop l.complex-index l.others) ≡ true;
}
