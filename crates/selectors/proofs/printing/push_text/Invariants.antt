use Rattle.std.proofs.Common.{◌≡◌, ◌++◌, drop}
use Rattle.selectors.proofs.printing.push_text.Given as goal

-- what was added, and what is to be added
abbrev pub invariant-loop-byte : goal.invariant-loop-byte
invariant-loop-byte l = l.out ++ drop l.byte-index l.byte-items ≡ l.fn.out ++ l.fn.text
