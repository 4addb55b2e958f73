use Rattle.std.proofs.Common.{ℕ, ◌≤◌, ◌+◌, List, length, ap, sym, ◌∙◌, arith, map, take}
use Rattle.std.specs.Prelude.{min}
use Rattle.std.specs.List.{sum}
use Rattle.std.proofs.lemmas.List.{take_all}
use Rattle.page_engine.specs.declared.target.Target.{Target}
use Rattle.page_engine.specs.declared.target.Target.TheVariants.{Blank}
use Rattle.page_file.specs.Weighing.{capped, frame_load}
use Rattle.page_file.proofs.HeavyPages.{sum_more, capped_more}
use Rattle.page_file.proofs.weights.page_load.Goals as goal

pub loop-target-preserved : goal.loop-target-preserved
loop-target-preserved c =
    let before = sum (map (frame_load c.args.known.now) (take c.loop-target.target-index c.as_slice-target-items.result.now)) in
    let more = sum_more (frame_load c.args.known.now) c.as_slice-target-items.result.now c.loop-target.target-index Blank c.loop-target-test.true in
    c.min-weight-in-loop-target.ensures
    ∙ ap (λ (w : ℕ). min (w + c.frame_load.result) 100001) c.loop-target.invariant
    ∙ capped_more c.args.load.now.nodes before c.frame_load.result
    ∙ ap (λ (k : ℕ). capped (c.args.load.now.nodes + k)) (ap (λ (k : ℕ). before + k) c.frame_load.ensures.load ∙ sym more)

pub returns-clause-load : goal.returns-clause-load
returns-clause-load c =
    let past : length c.as_slice-target-items.result.now ≤ c.loop-target.target-index = omega arith in
    c.loop-target.invariant
    ∙ ap (λ (ts : List Target). capped (c.args.load.now.nodes + sum (map (frame_load c.args.known.now) ts))) (take_all c.loop-target.target-index c.as_slice-target-items.result.now past ∙ c.as_slice-target-items.ensures)
