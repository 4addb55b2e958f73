use Rattle.std.proofs.Common.{◌≡◌, ◌≤◌, ◌<◌, true, false, ap, sym, ◌∙◌, arith, rules}
use Rattle.std.specs.BTreeSet.{contains_text}
use Rattle.std.specs.Str.{encode_utf8_all}
use Rattle.page_engine.specs.Books.{are_pairs}
use Rattle.page_file.proofs.SeenTexts.{was_had, was_new, far_place, key_again, pairs_more}
use Rattle.page_file.proofs.book.are_pairs.Goals as goal

pub returns-then-pair-count : goal.returns-then-pair-count
returns-then-pair-count c =
    let ps = c.as_slice-pair-items.result.now in
    let far : c.args.count ≤ c.pair-item.result.1 = omega (arith, c.if-pair-count.true) in
    sym (ap (are_pairs c.args.count) (sym c.as_slice-pair-items.ensures)
    ∙ far_place c.args.count ps c.loop-pair.pair-index c.pair-item.result c.loop-pair.seen c.loop-pair-test.true c.pair-item.is c.loop-pair.invariant.seen far)

pub returns-then-not-branch : goal.returns-then-not-branch
returns-then-not-branch c =
    let ps = c.as_slice-pair-items.result.now in
    let old : c.in_ok-note.field-0 ≡ false = search rules in
    let had = was_had c.in_ok-note.field-0 (contains_text c.loop-pair.seen (encode_utf8_all c.pair-item.result.0)) c.in_ok-note.ensures.new old in
    sym (ap (are_pairs c.args.count) (sym c.as_slice-pair-items.ensures)
    ∙ key_again c.args.count ps c.loop-pair.pair-index c.pair-item.result c.loop-pair.seen c.loop-pair-test.true c.pair-item.is c.loop-pair.invariant.seen had c.in_ok-note.ensures.text)

pub loop-pair-preserved : goal.loop-pair-preserved
loop-pair-preserved c =
    let ps = c.as_slice-pair-items.result.now in
    let near : c.pair-item.result.1 < c.args.count = omega (arith, c.if-pair-count.false) in
    let new : c.in_ok-note.field-0 ≡ true = search rules in
    let fresh = was_new c.in_ok-note.field-0 (contains_text c.loop-pair.seen (encode_utf8_all c.pair-item.result.0)) c.in_ok-note.ensures.new new in
    let more = pairs_more c.args.count ps c.loop-pair.pair-index c.pair-item.result c.loop-pair.seen c.loop-pair-test.true c.pair-item.is c.loop-pair.invariant.seen
    c.loop-pair.invariant.differ near fresh c.in_ok-note.ensures.text c.note.new.seen c.in_ok-note.ensures.has in
    record { differ = more.0; seen = more.1 }
