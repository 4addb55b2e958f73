use Rattle.std.proofs.Common.{◌≡◌, ◌<◌, length, get_or, ap, ◌∙◌, arith}
use Rattle.page_tree.specs.DocumentState.{DocumentState}
use Rattle.page_tree.specs.Rows.{count}
use Rattle.page_engine.specs.FirstValues.{first_at, started}
use Rattle.page_engine.proofs.Filling.{written}
use Rattle.page_engine.proofs.Growth.{length-for_each, at_number}
use Rattle.page_engine.proofs.FirstSteps.{partly, partly_more, partly_all}
use Rattle.page_engine.proofs.values.start.Goals as goal

pub overflow_cast-number : goal.overflow_cast-number
overflow_cast-number c =
    let rows = c.args.document.now.rows in
    let all : length c.args.firsts.now ≡ length rows.contents = ap length c.requires.values ∙ length-for_each (first_at rows) (length rows.contents) in
    omega (arith, all, c.law.ensures.content_of_each, c.law.ensures.few, c.loop-number-test.true)

pub start_node-requires-clause-node_in : goal.start_node-requires-clause-node_in
start_node-requires-clause-node_in c =
    let rows = c.args.document.now.rows in
    let all : length c.args.firsts.now ≡ length rows.contents = ap length c.requires.values ∙ length-for_each (first_at rows) (length rows.contents) in
    let same : count c.loop-number.document.rows ≡ count rows = ap (λ (s : DocumentState). count s.rows) c.loop-number.invariant in
    omega (arith, all, same, c.law.ensures.content_of_each, c.of.ensures, c.loop-number-test.true)

pub loop-number-preserved : goal.loop-number-preserved
loop-number-preserved c =
    let now = c.args.document.now in
    let k = c.loop-number.number in
    let first = c.index-firsts-number.result in
    let all : length c.args.firsts.now ≡ length now.rows.contents = ap length c.requires.values ∙ length-for_each (first_at now.rows) (length now.rows.contents) in
    let within : k < length now.rows.contents = omega (arith, all, c.loop-number-test.true) in
    partly_more now c.start_node.new.document k first within
    (c.index-firsts-number.is ∙ ap (λ xs. get_or xs k first) c.requires.values ∙ at_number (first_at now.rows) (length now.rows.contents) k first within)
    (c.in_ok-start_node.ensures ∙ ap (λ (s : DocumentState). written s c.of.result (started first)) c.loop-number.invariant
    ∙ ap (λ n. written (partly now k) n (started first)) c.of.ensures)

pub returns : goal.returns
returns c =
    let now = c.args.document.now in
    let all : length c.args.firsts.now ≡ length now.rows.contents = ap length c.requires.values ∙ length-for_each (first_at now.rows) (length now.rows.contents) in
    partly_all now c.loop-number.document c.loop-number.number (omega (arith, all, c.loop-number-test.false, c.loop-number.auto.number-end)) c.loop-number.invariant
