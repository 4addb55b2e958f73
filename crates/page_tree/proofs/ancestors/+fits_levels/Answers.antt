use Rattle.std.proofs.Common.{◌≡◌, ◌-◌, ◌<◌, length, get_or, true, sym, ap, ◌∙◌, subst, arith}
use Rattle.std.specs.List.{list_all}
use Rattle.std.proofs.lemmas.List.{take_all}
use Rattle.page_tree.specs.Places.{kids_of, fits_levels}
use Rattle.page_tree.specs.Inside.{kids_lists}
use Rattle.page_tree.proofs.Heights.{under, levels_none, no_room, root_left, none_left}
use Rattle.page_tree.proofs.ancestors.+fits_levels.Goals as goal

pub returns-then-levels-eq0 : goal.returns-then-levels-eq0
returns-then-levels-eq0 t c = sym (levels_none c.args.levels (under c.args.nodes.now) c.args.node c.if-levels-eq0.true)

pub returns-then-not-fits_levels : goal.returns-then-not-fits_levels
returns-then-not-fits_levels t c =
    let i = c.loop-kid.kid-index in
    let within : i < length (kids_of (kids_lists c.args.nodes.now) c.args.node) = subst (λ xs. i < length xs) c.kids-kid-items.ensures c.loop-kid-test.true in
    let is : c.kid-item.result ≡ get_or (kids_of (kids_lists c.args.nodes.now) c.args.node) i c.kid-item.result = c.kid-item.is ∙ ap (λ xs. get_or xs i c.kid-item.result) c.kids-kid-items.ensures in
    sym (no_room c.args.nodes.now c.args.levels c.args.node i c.kid-item.result (omega arith) within is (sym c.fits_levels.ensures ∙ c.if-not-fits_levels.true))

pub returns-in-Some : goal.returns-in-Some
returns-in-Some t c =
    let kids = c.kids-kid-items.result.now in
    let all : list_all (fits_levels (c.args.levels - 1) (under c.args.nodes.now)) (kids_of (kids_lists c.args.nodes.now) c.args.node) ≡ true =
    ap (list_all (fits_levels (c.args.levels - 1) (under c.args.nodes.now))) (sym (take_all c.loop-kid.kid-index kids c.loop-kid-test.false ∙ c.kids-kid-items.ensures)) ∙ c.loop-kid.invariant in
    c.fits_levels-in-Some.ensures ∙ root_left c.args.nodes.now c.args.levels c.args.node (omega arith) all c.in-Some.root c.in-Some.ensures

pub returns-in-None : goal.returns-in-None
returns-in-None t c =
    let kids = c.kids-kid-items.result.now in
    let all : list_all (fits_levels (c.args.levels - 1) (under c.args.nodes.now)) (kids_of (kids_lists c.args.nodes.now) c.args.node) ≡ true =
    ap (list_all (fits_levels (c.args.levels - 1) (under c.args.nodes.now))) (sym (take_all c.loop-kid.kid-index kids c.loop-kid-test.false ∙ c.kids-kid-items.ensures)) ∙ c.loop-kid.invariant in
    none_left c.args.nodes.now c.args.levels c.args.node (omega arith) all c.in-None.ensures
