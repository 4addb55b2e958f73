use Rattle.std.proofs.Common.{◌≡◌, ◌-◌, ◌∷◌, ◌++◌, take, sym, ap, ◌∙◌, arith, append-nil}
use Rattle.std.specs.List.{flat_map}
use Rattle.std.proofs.lemmas.List.{take_all}
use Rattle.page_tree.specs.Places.{walk, kids_of}
use Rattle.page_tree.proofs.Orders.{walk-none, walk-suc}
use Rattle.selectors.proofs.candidates.+walk.Goals as goal

pub returns-then-steps-eq0-clause-list : goal.returns-then-steps-eq0-clause-list
returns-then-steps-eq0-clause-list t c =
    let before = c.args.found.now in
    sym (ap (λ xs. before ++ xs) (walk-none c.args.steps c.args.document.now.rows.kids c.args.node (omega arith)) ∙ append-nil before)

pub returns-clause-list : goal.returns-clause-list
returns-clause-list t c =
    let before = c.args.found.now in
    let kids = c.args.document.now.rows.kids in
    let all : take c.loop-kid.kid-index c.as_slice-kid-items.result.now ≡ kids_of kids c.args.node = take_all c.loop-kid.kid-index c.as_slice-kid-items.result.now (omega arith) ∙ c.as_slice-kid-items.ensures ∙ c.in_ok-kids.ensures.list in
    c.loop-kid.invariant.same ∙ ap (λ xs. before ++ c.args.node ∷ flat_map (walk (c.args.steps - 1) kids) xs) all
    ∙ ap (λ xs. before ++ xs) (sym (walk-suc c.args.steps kids c.args.node (omega arith)))
