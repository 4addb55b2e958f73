use Rattle.std.proofs.Common.{◌++◌, ◌∷◌, [], sym, ap, ◌∙◌}
use Rattle.page_engine.specs.Opening.{for_each}
use Rattle.page_engine.specs.FirstValues.{first_at}
use Rattle.page_engine.proofs.Growth.{for_each-more}
use Rattle.page_engine.proofs.values.firsts.Goals as goal

pub loop-number-preserved : goal.loop-number-preserved
loop-number-preserved c =
    let f = first_at c.args.document.now.rows in
    c.in_ok-push.ensures.items ∙ ap (λ xs. xs ++ c.in_ok-first.field-0 ∷ []) c.loop-number.invariant
    ∙ ap (λ v. for_each f c.loop-number.number ++ v ∷ []) (c.in_ok-first.ensures ∙ ap f c.of.ensures)
    ∙ sym (for_each-more f c.loop-number.number)
