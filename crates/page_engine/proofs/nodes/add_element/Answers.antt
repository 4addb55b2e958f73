use Rattle.std.proofs.Common.{◌∙◌, ap}
use Rattle.std.specs.Str.{chars}
use Rattle.page_tree.specs.DocumentState.{DocumentState}
use Rattle.page_tree.specs.Rows.{Rows, is_element}
use Rattle.page_engine.specs.Opening.{filled}
use Rattle.page_engine.proofs.Filling.{added_element, element_filled, written}
use Rattle.page_engine.proofs.nodes.add_element.Goals as goal

pub fill-requires-clause-an_element : goal.fill-requires-clause-an_element
fill-requires-clause-an_element c =
    ap (λ (s : DocumentState). is_element s.rows c.in-Ok.node) c.in-Ok.ensures.ok
    ∙ added_element c.args.document.now.rows (chars c.args.tag.now) c.in-Ok.node c.law.ensures c.in-Ok.ensures.number

pub returns-in_ok-fill-in-Ok-clause-ok : goal.returns-in_ok-fill-in-Ok-clause-ok
returns-in_ok-fill-in-Ok-clause-ok c =
    let now = c.args.document.now in
    c.in_ok-fill-in-Ok.ensures
    ∙ ap (λ (s : DocumentState). written s c.in-Ok.node (filled c.args.def.now)) c.in-Ok.ensures.ok
    ∙ ap (λ (r : Rows). let s : DocumentState = record now { rows = r } in s) (element_filled now.rows c.args.def.now (chars c.args.tag.now) c.in-Ok.node c.law.ensures c.in-Ok.ensures.number c.requires.kind)
