use Rattle.std.proofs.Common.{◌≡◌, ◌<◌, ◌++◌, drop}
use Rattle.std.specs.Prelude.{filter}
use Rattle.std.specs.List.{All}
use Rattle.page_tree.specs.Rows.{count, is_element}
use Rattle.selectors.specs.Siblings.{before}
use Rattle.selectors.proofs.places.earlier.Given as goal

abbrev pub invariant-loop-kid : goal.invariant-loop-kid
invariant-loop-kid l =
    let rows = l.document.rows in
    record {
      found_in : All (λ n. n < count rows) l.found;
      same : filter (is_element rows) (before l.node l.kid-items) ≡ l.found ++ filter (is_element rows) (before l.node (drop l.kid-index l.kid-items));
    }
