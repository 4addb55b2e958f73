use Rattle.std.proofs.Common.{◌≡◌, ◌++◌, drop}
use Rattle.std.specs.List.{flat_map}
use Rattle.selectors.specs.Printing.{string_written}
use Rattle.selectors.proofs.printed_names.push_all_of_string.Given as goal

-- what was added, and what is to be added for the rest
abbrev pub invariant-loop-c : goal.invariant-loop-c
invariant-loop-c l = l.out ++ flat_map string_written (drop l.c-index l.text) ≡ l.fn.out ++ flat_map string_written l.text
