use Rattle.std.proofs.Common.{sym, subst, refl, ap, ◌∙◌}
use Rattle.wd_json.specs.Keys.{KeysRise}
use Rattle.wd_json.specs.declared.value.Json.TheVariants.{Object}
use Rattle.capabilities.specs.Table.{all_capabilities}
use Rattle.capabilities.specs.Echo.{echoed_at}
use Rattle.capabilities.proofs.Keys.{echoed-rise, row-made, row-added, rows-made}
use Rattle.capabilities.proofs.Whole.{Whole}
use Rattle.capabilities.proofs.EchoWhole.{echoed-whole}
use Rattle.capabilities.proofs.echoing.echo.Goals as goal

pub loop-capability-preserved : goal.loop-capability-preserved
loop-capability-preserved c = record {
  rows = refl;
  so_far = row-added (echoed_at c.args.offer.now.name c.args.matched.now) all_capabilities c.loop-capability.capability-index _ _ _ _ c.loop-capability-test.true c.loop-capability.invariant.so_far c.in_ok-push.ensures.items
      (row-made _ _ _ _ _ _ c.in_ok-key.ensures.characters c.name.ensures c.in_ok-echoed_at.ensures);
}

pub from_sorted-requires : goal.from_sorted-requires
from_sorted-requires c =
    let rows = rows-made (echoed_at c.args.offer.now.name c.args.matched.now) all_capabilities c.loop-capability.capability-index _ c.loop-capability.invariant.so_far c.loop-capability-test.false in
    subst KeysRise (sym rows) (echoed-rise c.args.offer.now.name c.args.matched.now)

pub returns-clause-members : goal.returns-clause-members
returns-clause-members c =
    let rows = rows-made (echoed_at c.args.offer.now.name c.args.matched.now) all_capabilities c.loop-capability.capability-index _ c.loop-capability.invariant.so_far c.loop-capability-test.false in
    ap Object (c.from_sorted.ensures ∙ rows)

pub returns-clause-whole : goal.returns-clause-whole
returns-clause-whole c = λ p. subst Whole (sym (returns-clause-members c)) (echoed-whole c.args.offer.now.name c.args.matched.now c.requires p)
