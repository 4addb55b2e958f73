use Rattle.std.proofs.Common.{◌≡◌, ◌++◌, cond, drop}
use Rattle.std.specs.Prelude.{filter}
use Rattle.page_tree.specs.Rows.{is_element}
use Rattle.selectors.specs.Siblings.{after}
use Rattle.selectors.proofs.places.later.Given as goal

abbrev pub invariant-loop-kid : goal.invariant-loop-kid
invariant-loop-kid l =
    let rows = l.document.rows in
    let rest = drop l.kid-index l.kid-items in
    filter (is_element rows) (after l.node l.kid-items) ≡ l.found ++ filter (is_element rows) (cond l.passed rest (after l.node rest))
