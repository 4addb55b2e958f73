use Rattle.std.proofs.Common.{◌≡◌, false, take}
use Rattle.page_engine.specs.Opening.{bare_rows}
use Rattle.page_engine.proofs.nodes.document_of.Given as goal

abbrev pub invariant-loop-i : goal.invariant-loop-i
invariant-loop-i l = l.document ≡ record { rows = bare_rows (take l.i l.nodes); spent = false }
