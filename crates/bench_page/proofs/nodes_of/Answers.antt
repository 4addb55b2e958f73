use Rattle.std.proofs.Common.{◌++◌, ◌∷◌, [], ap, ◌∙◌}
use Rattle.bench_page.specs.Flat.{a_root, a_field, repeated}
use Rattle.bench_page.proofs.FlatLaws.{repeated_more}
use Rattle.bench_page.proofs.nodes_of.Goals as goal

pub loop-i-preserved : goal.loop-i-preserved
loop-i-preserved c =
    c.in_ok-push-2.ensures.ok ∙ ap (λ xs. xs ++ c.in_ok-field.field-0 ∷ []) c.loop-i.invariant
    ∙ ap (λ d. a_root ∷ (repeated c.loop-i._i a_field ++ d ∷ [])) c.in_ok-field.ensures
    ∙ ap (λ ds. a_root ∷ ds) (repeated_more c.loop-i._i a_field)
