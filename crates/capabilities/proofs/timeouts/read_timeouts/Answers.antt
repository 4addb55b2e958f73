use Rattle.capabilities.specs.Timeouts.{AreInRange}
use Rattle.capabilities.proofs.Ranges.{timeouts_in-range, ok_or-holds}
use Rattle.capabilities.proofs.timeouts.read_timeouts.Goals as goal

pub returns-clause-range : goal.returns-clause-range
returns-clause-range c = λ h. rw (c.ok_or.ensures.value, c.as_timeouts.ensures) (ok_or-holds _ _ AreInRange (timeouts_in-range c.args.value.now c.args.base h))
