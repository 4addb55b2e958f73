use Rattle.std.proofs.Common.{◌≡◌, ◌++◌, ◌∙◌, ap, take, arith}
use Rattle.std.proofs.lemmas.List.{take_all}
use Rattle.page_tree.specs.Inside.{rows_of, kids_lists}
use Rattle.page_tree.specs.Places.{walk, max_depth}
use Rattle.page_tree.specs.Rows.{text_of}
use Rattle.page_tree.specs.Texts.{texts_of, or_nothing}
use Rattle.page_tree.proofs.Orders.{texts_next}
use Rattle.page_tree.proofs.document.Document.texts_below.Goals as goal

pub loop-node-preserved : goal.loop-node-preserved
loop-node-preserved c =
    let rows = rows_of c.self.inside.nodes.items in
    c.in_ok-add_text.ensures
    ∙ ap (λ nodes. c.loop-node.joined ++ or_nothing (text_of (rows_of nodes) c.node-item.result)) c.deref-in-loop-node.ensures.value
    ∙ ap (λ xs. xs ++ or_nothing (text_of rows c.node-item.result)) c.loop-node.invariant
    ∙ texts_next rows c.deref-node-items.result.now c.loop-node.node-index c.node-item.result c.loop-node-test.true c.node-item.is

pub returns : goal.returns
returns c =
    let rows = rows_of c.self.inside.nodes.items in
    let all : take c.loop-node.node-index c.deref-node-items.result.now ≡ walk max_depth rows.kids c.args.node =
    take_all c.loop-node.node-index c.deref-node-items.result.now (omega arith)
    ∙ c.deref-node-items.ensures.value ∙ c.in_ok-walk.ensures
    ∙ ap (λ nodes. c.new-below.result.items ++ walk max_depth (kids_lists nodes) c.args.node) c.deref.ensures.value
    ∙ ap (λ ns. ns ++ walk max_depth rows.kids c.args.node) c.new-below.ensures.items in
    rw (← c.self.view_is) (c.loop-node.invariant ∙ ap (texts_of rows) all)
