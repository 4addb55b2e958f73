use Rattle.std.proofs.Common.{◌≡◌, ◌-◌, ◌∷◌, ◌++◌, take, sym, ap, ◌∙◌, arith, append-nil}
use Rattle.std.specs.List.{flat_map}
use Rattle.std.proofs.lemmas.List.{take_all}
use Rattle.page_tree.specs.Places.{walk, kids_of}
use Rattle.page_tree.specs.Inside.{kids_lists}
use Rattle.page_tree.proofs.Orders.{walk-none, walk-suc}
use Rattle.page_tree.proofs.order.+walk.Goals as goal

pub returns-then-steps-eq0 : goal.returns-then-steps-eq0
returns-then-steps-eq0 t c =
    let before = c.args.found.now.items in
    sym (ap (λ xs. before ++ xs) (walk-none c.args.steps (kids_lists c.args.nodes.now) c.args.node (omega arith)) ∙ append-nil before)

pub returns : goal.returns
returns t c =
    let before = c.args.found.now.items in
    let kids = kids_lists c.args.nodes.now in
    let all : take c.loop-place.place c.kids-children.result.now ≡ kids_of kids c.args.node = take_all c.loop-place.place c.kids-children.result.now (omega arith) ∙ c.kids-children.ensures in
    c.loop-place.invariant ∙ ap (λ xs. before ++ c.args.node ∷ flat_map (walk (c.args.steps - 1) kids) xs) all
    ∙ ap (λ xs. before ++ xs) (sym (walk-suc c.args.steps kids c.args.node (omega arith)))
