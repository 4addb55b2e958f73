use Rattle.std.proofs.Common.{◌++◌, ◌∷◌, [], ap, ◌∙◌}
use Rattle.bench_page.specs.Flat.{a_timer, repeated}
use Rattle.bench_page.proofs.FlatLaws.{repeated_more}
use Rattle.bench_page.proofs.timers_of.Goals as goal

pub loop-i-preserved : goal.loop-i-preserved
loop-i-preserved c =
    c.in_ok-push.ensures.ok ∙ ap (λ xs. xs ++ c.in_ok-timer.field-0 ∷ []) c.loop-i.invariant
    ∙ ap (λ t. repeated c.loop-i._i a_timer ++ t ∷ []) c.in_ok-timer.ensures ∙ repeated_more c.loop-i._i a_timer
