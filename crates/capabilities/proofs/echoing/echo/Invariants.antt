use Rattle.std.proofs.Common.{◌≡◌, map, take}
use Rattle.capabilities.specs.Table.{all_capabilities}
use Rattle.capabilities.specs.Echo.{echoed_at}
use Rattle.capabilities.proofs.echoing.echo.Given as goal

abbrev pub invariant-loop-capability : goal.invariant-loop-capability
invariant-loop-capability l = record {
  rows : l.capability-items ≡ all_capabilities;
  so_far : l.members.items ≡ map (echoed_at l.offer.name l.matched) (take l.capability-index l.capability-items);
}
