-- The capabilities that a new session is answered with.
use Rattle.std.specs.Prelude.{ℕ, List, map}
use Rattle.capabilities.specs.Values.{Member, Members}
use Rattle.capabilities.specs.Table.{row_of, all_capabilities}
use Rattle.capabilities.specs.declared.capability.Capability.{Capability}
use Rattle.capabilities.specs.declared.matched.Matched.{Matched}

abbrev pub echoed_at : List ℕ → Matched → Capability → Member
echoed_at offered m c = ((row_of c).name, (row_of c).echoed offered m)

-- each row of the table, in order
abbrev pub echoed : List ℕ → Matched → Members
echoed offered m = map (echoed_at offered m) all_capabilities
