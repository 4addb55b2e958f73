use Rattle.std.proofs.Common.{ℕ, ◌≡◌, ◌≤◌, List, All, length, replicate, map, ap, sym, ◌∙◌, subst, arith, rules}
use Rattle.std.specs.Prelude.{nat_lt}
use Rattle.std.specs.List.{position}
use Rattle.page_file.specs.Weighing.{page_load, weights}
use Rattle.page_file.proofs.HeavyPages.{weights_more, weights_blank, few_blank, first_over}
use Rattle.page_file.proofs.weights.first_heavy.Goals as goal

pub loop-init : goal.loop-init
loop-init c =
    let filled : c.in_ok-known.known.items ≡ replicate (length c.args.loads.now) 3 = search rules in
    ((λ pages are. filled ∙ weights_blank pages pages c.args.loads.now are), subst (All (λ n. n ≤ 100001)) (sym filled) (few_blank (length c.args.loads.now)))

pub heavier-requires : goal.heavier-requires
heavier-requires c = subst (All (λ n. n ≤ 100001)) (sym c.deref.ensures.value) c.loop.invariant.1

pub loop-preserved : goal.loop-preserved
loop-preserved c = (
  (λ pages are. c.in_ok-known-2.ensures.weights
      ∙ ap (λ (ks : List ℕ). map (page_load ks) c.args.loads.now) c.deref.ensures.value
      ∙ weights_more pages c.loop.counter c.args.loads.now c.loop.known.items are (c.loop.invariant.0 pages are)),
  c.in_ok-known-2.ensures.few,
)

pub returns : goal.returns
returns c pages are =
    let last : c.loop.counter ≡ 8 = omega arith in
    c.first_over.ensures
    ∙ ap (position (λ (n : ℕ). nat_lt 100000 n)) c.deref-2.ensures.value
    ∙ first_over pages c.loop.known.items (c.loop.invariant.0 pages are ∙ ap (weights pages) last)
