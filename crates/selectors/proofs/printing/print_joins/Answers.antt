use Rattle.selectors.specs.PrintingSelectors.{printed_join}
use Rattle.selectors.specs.WellFormed.{is_joined}
use Rattle.selectors.proofs.PrintLoops.{printed_more, good_more}
use Rattle.selectors.proofs.printing.print_joins.Goals as goal

pub loop-join-preserved : goal.loop-join-preserved
loop-join-preserved c = record {
  whole = printed_more printed_join c.loop-join.out c.print_join.new.out _ c.as_slice-join-items.result.now c.loop-join.join-index c.join-item.result c.loop-join-test.true c.join-item.is c.in_ok-print_join.ensures c.loop-join.invariant.whole;
  good = good_more is_joined c.as_slice-join-items.result.now c.loop-join.join-index c.join-item.result c.loop-join-test.true c.join-item.is c.loop-join.invariant.good;
}
