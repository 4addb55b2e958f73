-- A session's timeouts, in milliseconds, as they are read from an object and written as one.
use Rattle.std.specs.Prelude.{ℕ, ◌^◌, ◌<◌, List, [], ◌∷◌, Option, Some, None, codes, pos, nat_lt, if◌then◌else◌}
use Rattle.std.specs.Option.{option_map_or, option_and_then}
use Rattle.capabilities.specs.Values.{Members, object_of, value_of}
use Rattle.capabilities.specs.declared.timeouts.Timeouts.{Timeouts}
use Rattle.wd_json.specs.declared.value.Json.{Json, out-Json}
use Rattle.wd_json.specs.declared.value.Json.TheOpen.{Json-F}
use Rattle.wd_json.specs.declared.value.Json.TheVariants as json

-- each is at most 2^53 - 1
pub record AreInRange (t : Timeouts) : Type 0 where
  pub script : t.script < 2 ^ 53
  pub page_load : t.page_load < 2 ^ 53
  pub implicit : t.implicit < 2 ^ 53

abbrev pub default_timeouts : Timeouts
default_timeouts = record { script = 30000; page_load = 300000; implicit = 0 }

abbrev pub span_in : {A : Type 0} → Json-F A → Option ℕ
span_in (Json-F.Int (pos n)) = if nat_lt n (2 ^ 53) then Some n else None
span_in v = None

-- a whole number of 0 to 2^53 - 1
abbrev pub span_of : Json → Option ℕ
span_of v = span_in (out-Json v)

-- the number at a name, or the base where the name is absent
abbrev pub span_at : List ℕ → ℕ → Members → Option ℕ
span_at name base ms = option_map_or span_of (value_of name ms) (Some base)

-- the base with what the object gives, if each of the three that is there is such a number
abbrev pub timeouts_in : Json → Timeouts → Option Timeouts
timeouts_in v base =
    option_and_then (λ ms. option_and_then (λ s. option_and_then (λ p. option_and_then (λ i.
    Some (record { script = s; page_load = p; implicit = i }))
    (span_at (codes "implicit") base.implicit ms))
    (span_at (codes "pageLoad") base.page_load ms))
    (span_at (codes "script") base.script ms))
    (object_of v)

abbrev pub timeouts_of : Json → Option Timeouts
timeouts_of v = timeouts_in v default_timeouts

abbrev pub timeouts_object : Timeouts → Json
timeouts_object t =
    json.Object ((codes "implicit", json.Int (pos t.implicit)) ∷ (codes "pageLoad", json.Int (pos t.page_load)) ∷ (codes "script", json.Int (pos t.script)) ∷ [])
