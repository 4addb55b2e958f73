use Rattle.std.proofs.Common.{◌≡◌, ◌+◌, ◌-◌, ◌<◌, length, get_or, false, take, ℕ, Bool, sym, ap, ◌∙◌, subst, arith}
use Rattle.std.specs.Prelude.{not, ◌&&◌}
use Rattle.std.specs.List.{list_any}
use Rattle.std.proofs.lemmas.List.{take_all}
use Rattle.page_tree.specs.Places.{kids_of}
use Rattle.page_tree.specs.Rows.{is_element}
use Rattle.page_tree.specs.Inside.{rows_of}
use Rattle.page_tree.specs.Display.{is_part, is_seen, is_choice, hides}
use Rattle.page_tree.proofs.Displays.{seen_none, seen_by_box, seen_by_none, seen_by_kid, kid_is_shown, kid_is_part, kid_under_select, kid_left_out, kid_unseen, none_more}
use Rattle.page_tree.proofs.displayed.+has_seen.Goals as goal
use Rattle.page_tree.proofs.displayed.+has_seen.Goals.{then-is_shown_part+else-has_seen, else-is_shown_part}

pub returns-then-levels-eq0 : goal.returns-then-levels-eq0
returns-then-levels-eq0 t c = sym (seen_none c.args.levels (rows_of c.args.nodes.now) c.args.node c.if-levels-eq0.true)

pub returns-then-has_pixels : goal.returns-then-has_pixels
returns-then-has_pixels t c = sym (seen_by_box (rows_of c.args.nodes.now) c.requires.tree c.args.levels c.args.node (omega arith) c.requires.shown (sym c.has_pixels.ensures ∙ c.if-has_pixels.true))

pub has_seen-requires : goal.has_seen-requires
has_seen-requires t c =
    let rows = rows_of c.args.nodes.now in
    let k = c.kid-item.result in
    let i = c.loop-kid.kid-index in
    let within : i < length (kids_of rows.kids c.args.node) = subst (λ xs. i < length xs) c.kids-kid-items.ensures c.loop-kid-test.true in
    let is : k ≡ get_or (kids_of rows.kids c.args.node) i k = c.kid-item.is ∙ ap (λ xs. get_or xs i k) c.kids-kid-items.ensures in (
      omega arith,
      (
        c.requires.tree,
        (
          kid_is_shown rows c.requires.tree c.args.levels c.args.node (omega arith) c.requires.shown i k within is (is_element rows k && not (is_choice rows k && c.args.in_select)) (sym c.is_shown_part.ensures ∙ c.if-is_shown_part.true),
          c.is_in_select-under_select.ensures ∙ kid_under_select rows c.requires.tree c.args.levels c.args.node (omega arith) c.requires.shown i k within is c.args.in_select c.requires.select,
        ),
      ),
    )

pub returns-then-has_seen : goal.returns-then-has_seen
returns-then-has_seen t c =
    let rows = rows_of c.args.nodes.now in
    let k = c.kid-item.result in
    let i = c.loop-kid.kid-index in
    let within : i < length (kids_of rows.kids c.args.node) = subst (λ xs. i < length xs) c.kids-kid-items.ensures c.loop-kid-test.true in
    let is : k ≡ get_or (kids_of rows.kids c.args.node) i k = c.kid-item.is ∙ ap (λ xs. get_or xs i k) c.kids-kid-items.ensures in
    sym (seen_by_kid rows c.requires.tree c.args.levels c.args.node (omega arith) c.requires.shown i k within is
    (kid_is_part rows c.requires.tree c.args.levels c.args.node (omega arith) c.requires.shown i k within is c.args.in_select (not (hides rows k)) c.requires.select (sym c.is_shown_part.ensures ∙ c.if-is_shown_part.true))
    (sym c.has_seen.ensures ∙ c.if-has_seen.true) (sym c.has_pixels.ensures ∙ c.if-has_pixels.false))

pub loop-kid-preserved : goal.loop-kid-preserved
loop-kid-preserved t c =
    let rows = rows_of c.args.nodes.now in
    let k = c.kid-item.result in
    let i = c.loop-kid.kid-index in
    let test : ℕ → Bool = λ m. is_part rows m && is_seen (c.args.levels - 1) rows m in
    let within : i < length (kids_of rows.kids c.args.node) = subst (λ xs. i < length xs) c.kids-kid-items.ensures c.loop-kid-test.true in
    let is : k ≡ get_or (kids_of rows.kids c.args.node) i k = c.kid-item.is ∙ ap (λ xs. get_or xs i k) c.kids-kid-items.ensures in
    let here : test k ≡ false = elim c.if-is_shown_part.branch [
      | then-is_shown_part+else-has_seen w ↦ kid_unseen rows c.requires.tree c.args.levels c.args.node (omega arith) c.requires.shown i k within is (sym w.has_seen.ensures ∙ w.if-has_seen.false)
      | else-is_shown_part w ↦ kid_left_out rows c.requires.tree c.args.levels c.args.node (omega arith) c.requires.shown i k within is c.args.in_select c.requires.select (sym c.is_shown_part.ensures ∙ w.if-is_shown_part.false)
    ] in
    ap (λ xs. list_any test (take (i + 1) xs)) c.kids-kid-items.ensures
    ∙ none_more rows c.requires.tree c.args.levels c.args.node (omega arith) c.requires.shown i k within is (ap (λ xs. list_any test (take i xs)) (sym c.kids-kid-items.ensures) ∙ c.loop-kid.invariant) here

pub returns : goal.returns
returns t c =
    let rows = rows_of c.args.nodes.now in
    let test : ℕ → Bool = λ m. is_part rows m && is_seen (c.args.levels - 1) rows m in
    sym (seen_by_none rows c.requires.tree c.args.levels c.args.node (omega arith) c.requires.shown (sym c.has_pixels.ensures ∙ c.if-has_pixels.false)
    (ap (list_any test) (sym (take_all c.loop-kid.kid-index c.kids-kid-items.result.now c.loop-kid-test.false ∙ c.kids-kid-items.ensures)) ∙ c.loop-kid.invariant))
