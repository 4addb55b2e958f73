use Rattle.std.proofs.Common.{◌≡◌, drop}
use Rattle.std.specs.List.{list_any}
use Rattle.page_tree.specs.Places.{contains}
use Rattle.selectors.specs.Named.{complex_nodes}
use Rattle.selectors.specs.declared.selector.Complex.{Complex}
use Rattle.selectors.proofs.matching.is_named.Given as goal

abbrev pub invariant-loop-complex : goal.invariant-loop-complex
invariant-loop-complex l =
    let test = λ (complex : Complex). contains l.node (complex_nodes l.document.rows complex) in
    list_any test l.selector ≡ list_any test (drop l.complex-index l.complex-items)
