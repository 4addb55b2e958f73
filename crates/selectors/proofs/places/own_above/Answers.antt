use Rattle.std.proofs.Common.{◌-◌, ◌+◌, ◌<◌, ◌∷◌, ◌++◌, [], drop, sym, ap, subst, ◌∙◌, arith, append_assoc, append-nil}
use Rattle.std.specs.List.{All}
use Rattle.page_tree.specs.Places.{chain, own_ups}
use Rattle.page_tree.specs.Rows.{count}
use Rattle.selectors.proofs.Above.{above_up, above_top, above_end}
use Rattle.selectors.proofs.Lists.{All-more}
use Rattle.selectors.proofs.places.own_above.Goals as goal

pub returns-in-None-clause-list : goal.returns-in-None-clause-list
returns-in-None-clause-list c =
    let rows = c.args.document.now.rows in
    let own = own_ups rows.ups rows.shadows in
    sym (c.loop-i.invariant.same ∙ ap (λ xs. c.loop-i.found ++ xs) (above_top 200 c.loop-i._i own c.loop-i.at (omega arith) c.in-None.ensures.row) ∙ append-nil c.loop-i.found)

pub loop-i-preserved : goal.loop-i-preserved
loop-i-preserved c =
    let rows = c.args.document.now.rows in
    let own = own_ups rows.ups rows.shadows in
    let rest = drop 1 (chain (200 - (c.loop-i._i + 1)) own c.in-Some.up) in
    record {
      within = c.in-Some.ensures.within;
      found_in = subst (All (λ n. n < count rows)) (sym c.in_ok-push-in-Some.ensures.ok) (All-more (λ n. n < count rows) c.loop-i.found c.in-Some.up c.loop-i.invariant.found_in c.in-Some.ensures.within);
      same = c.loop-i.invariant.same ∙ ap (λ xs. c.loop-i.found ++ xs) (above_up 200 c.loop-i._i own c.loop-i.at c.in-Some.up (omega arith) c.in-Some.ensures.row)
          ∙ sym (append_assoc c.loop-i.found (c.in-Some.up ∷ []) rest) ∙ ap (λ xs. xs ++ rest) (sym c.in_ok-push-in-Some.ensures.ok);
    }

pub returns-clause-list : goal.returns-clause-list
returns-clause-list c =
    let rows = c.args.document.now.rows in
    let own = own_ups rows.ups rows.shadows in
    sym (c.loop-i.invariant.same ∙ ap (λ xs. c.loop-i.found ++ xs) (above_end 200 c.loop-i._i own c.loop-i.at (omega arith)) ∙ append-nil c.loop-i.found)
