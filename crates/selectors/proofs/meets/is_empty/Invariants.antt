use Rattle.std.proofs.Common.{◌≡◌, drop}
use Rattle.std.specs.List.{list_all}
use Rattle.page_tree.specs.Places.{kids_of}
use Rattle.selectors.specs.Meets.{is_blank}
use Rattle.selectors.proofs.meets.is_empty.Given as goal

abbrev pub invariant-loop-kid : goal.invariant-loop-kid
invariant-loop-kid l = list_all (is_blank l.document.rows) (kids_of l.document.rows.kids l.fn.node) ≡ list_all (is_blank l.document.rows) (drop l.kid-index l.kid-items)
