use Rattle.std.proofs.Common.{◌≡◌, ◌<◌, ◌-◌, ◌+◌, ◌++◌, length, get_or, take, sym, ap, subst, ◌∙◌, arith, List, ℕ}
use Rattle.std.specs.Prelude.{filter}
use Rattle.std.specs.List.{flat_map, All}
use Rattle.std.proofs.lemmas.List.{take_all}
use Rattle.std.proofs.lemmas.List.Elements.{All-get_or}
use Rattle.page_tree.specs.Places.{kids_of}
use Rattle.page_tree.specs.Rows.{count, tag_of, text_of}
use Rattle.page_tree.specs.Display.{is_shown}
use Rattle.interaction.specs.RenderedText.{breaks_before, break_if, characters, marks}
use Rattle.interaction.specs.Writing.{written}
use Rattle.interaction.specs.declared.lines.Lines.{Lines}
use Rattle.interaction.proofs.WriteLemmas.{marks_none, begun, finished, kid_seen, kid_written, kid_left_out}
use Rattle.interaction.proofs.rendered.+add.Goals as goal
use Rattle.interaction.proofs.rendered.+add.Goals.{then-not-hides+in_ok-add, else-not-hides}

pub returns-then-levels-eq0 : goal.returns-then-levels-eq0
returns-then-levels-eq0 t c = marks_none c.args.lines.now c.args.levels c.args.document.now.rows c.args.node c.if-levels-eq0.true

pub loop-kid-init : goal.loop-kid-init
loop-kid-init t c =
    let rows = c.args.document.now.rows in
    begun c.args.lines.now c.begin.new.lines c.write_own.new.lines (break_if (breaks_before (tag_of rows c.args.node))) (characters (text_of rows c.args.node)) c.begin.ensures c.in_ok-write_own.ensures

pub add-requires : goal.add-requires
add-requires t c =
    let rows = c.args.document.now.rows in
    let own = break_if (breaks_before (tag_of rows c.args.node)) ++ characters (text_of rows c.args.node) in
    let k = c.kid-item.result in
    let i = c.loop-kid.kid-index in
    let listed : c.as_slice-kid-items.result.now ≡ kids_of rows.kids c.args.node = c.as_slice-kid-items.ensures ∙ c.in_ok-kids.ensures.list in
    let within : i < length (kids_of rows.kids c.args.node) = subst (λ xs. i < length xs) listed c.loop-kid-test.true in
    let is : k ≡ get_or (kids_of rows.kids c.args.node) i k = c.kid-item.is ∙ ap (λ xs. get_or xs i k) listed in
    let each : All (λ m. m < count rows) (kids_of rows.kids c.args.node) = subst (All (λ m. m < count rows)) c.in_ok-kids.ensures.list c.in_ok-kids.ensures.within in
    let node_in : k < count rows = subst (λ m. m < count rows) (sym is) (All-get_or (λ m. m < count rows) (kids_of rows.kids c.args.node) i k within each) in (
      omega arith,
      (
        c.requires.alive,
        (
          node_in,
          (
            c.requires.tree,
            kid_seen rows c.requires.tree (c.args.levels - 1) c.args.node c.requires.shown c.args.lines.now own i k within is (sym c.hides.ensures ∙ c.if-not-hides.true),
          ),
        ),
      ),
    )

pub loop-kid-preserved : goal.loop-kid-preserved
loop-kid-preserved t c =
    let rows = c.args.document.now.rows in
    let own = break_if (breaks_before (tag_of rows c.args.node)) ++ characters (text_of rows c.args.node) in
    let k = c.kid-item.result in
    let i = c.loop-kid.kid-index in
    let listed : c.as_slice-kid-items.result.now ≡ kids_of rows.kids c.args.node = c.as_slice-kid-items.ensures ∙ c.in_ok-kids.ensures.list in
    let within : i < length (kids_of rows.kids c.args.node) = subst (λ xs. i < length xs) listed c.loop-kid-test.true in
    let is : k ≡ get_or (kids_of rows.kids c.args.node) i k = c.kid-item.is ∙ ap (λ xs. get_or xs i k) listed in
    let so_far : List ℕ → Lines = λ xs. written c.args.lines.now (own ++ flat_map (marks (c.args.levels - 1) rows) (filter (is_shown rows) xs)) in
    let held : c.loop-kid.lines ≡ so_far (take i (kids_of rows.kids c.args.node)) = c.loop-kid.invariant ∙ ap (λ xs. so_far (take i xs)) listed in
    let next : c.if-not-hides.lines ≡ so_far (take (i + 1) (kids_of rows.kids c.args.node)) = elim c.if-not-hides.branch [
      | then-not-hides+in_ok-add w ↦ w.lines-is ∙ kid_written rows c.requires.tree (c.args.levels - 1) c.args.node c.requires.shown c.args.lines.now own i k within is c.loop-kid.lines w.add.new.lines held (sym c.hides.ensures ∙ w.if-not-hides.true) w.in_ok-add.ensures
      | else-not-hides w ↦ w.lines-is ∙ kid_left_out rows c.requires.tree (c.args.levels - 1) c.args.node c.requires.shown c.args.lines.now own i k within is c.loop-kid.lines held (sym c.hides.ensures ∙ w.if-not-hides.false)
    ] in
    next ∙ ap (λ xs. so_far (take (i + 1) xs)) (sym listed)

pub returns : goal.returns
returns t c =
    let rows = c.args.document.now.rows in
    let listed : c.as_slice-kid-items.result.now ≡ kids_of rows.kids c.args.node = c.as_slice-kid-items.ensures ∙ c.in_ok-kids.ensures.list in
    let all : take c.loop-kid.kid-index c.as_slice-kid-items.result.now ≡ kids_of rows.kids c.args.node = take_all c.loop-kid.kid-index c.as_slice-kid-items.result.now (omega arith) ∙ listed in
    finished c.args.levels rows c.args.node c.args.lines.now c.loop-kid.lines c.finish.new.lines (take c.loop-kid.kid-index c.as_slice-kid-items.result.now) (omega arith) all c.loop-kid.invariant c.finish.ensures
