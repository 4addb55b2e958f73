use Rattle.std.proofs.Common.{◌≡◌, Bool, reverse, take, sym, ap, subst, ◌∙◌, arith}
use Rattle.std.specs.Prelude.{IfOk}
use Rattle.std.proofs.lemmas.List.{take_all}
use Rattle.page_tree.specs.Places.{contains}
use Rattle.selectors.specs.Meets.{meets_all}
use Rattle.selectors.specs.Named.{matches_from, complex_nodes}
use Rattle.selectors.proofs.RightToLeft.{complex_is}
use Rattle.selectors.proofs.matching.matches.Goals as goal

pub returns : goal.returns
returns c =
    let rows = c.args.document.now.rows in
    let complex = c.args.complex.now in
    let same : matches_from (meets_all rows complex.first) rows (reverse (take c.len.result complex.rest)) c.args.node ≡ contains c.args.node (complex_nodes rows complex) =
    ap (λ js. matches_from (meets_all rows complex.first) rows (reverse js) c.args.node) (take_all c.len.result complex.rest (omega arith)) ∙ sym (complex_is rows complex c.args.node) in
    subst (λ (b : Bool). IfOk c.match_up_to.result (λ named. named ≡ b)) same c.match_up_to.ensures
