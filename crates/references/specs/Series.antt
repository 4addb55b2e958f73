-- The identifiers to come of one session of one run, in the order of their serials.
use Rattle.std.specs.Prelude.{ℕ, ◌-◌, ◌^◌, ◌<◌}
use Rattle.references.specs.declared.kind.Kind.{Kind}
use Rattle.references.specs.Identifier.{Identifier}

pub record Series : Type 0 where
  pub run : ℕ
  pub session : ℕ
  pub next : ℕ

-- the numbers fit their places in an identifier
pub record FitsPlaces (s : Series) : Type 0 where
  pub run : s.run < 2 ^ 48
  pub session : s.session < 2 ^ 30
  pub next : s.next < 2 ^ 32

-- the identifier of that kind with that serial
abbrev pub id_at : Series → Kind → ℕ → Identifier
id_at s kind serial = record { run = s.run; session = s.session; kind = kind; serial = serial }

-- it is never given
abbrev pub last_serial : ℕ
last_serial = 2 ^ 32 - 1
