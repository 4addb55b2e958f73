-- Timeouts that are read are in range.
use Rattle.std.proofs.Common.{◌≡◌, ℕ, ◌<◌, ◌^◌, Bool, true, false, Option, Some, None, IfSome, IfOk, pos, negsuc, nat_lt, if◌then◌else◌, codes, refl, tests, arith, rules}
use Rattle.std.specs.Option.{option_map_or, option_and_then, ok_or, unwrap_or}
use Rattle.wd_json.specs.declared.value.Json.{Json, out-Json}
use Rattle.wd_json.specs.declared.value.Json.TheOpen.{Json-F}
use Rattle.capabilities.specs.Values.{Members, object_of, value_of}
use Rattle.capabilities.specs.Timeouts.{AreInRange, span_in, span_of, span_at, timeouts_in, timeouts_of, default_timeouts}
use Rattle.capabilities.specs.Processed.{read_at}
use Rattle.capabilities.specs.declared.timeouts.Timeouts.{Timeouts}

-- a number in range, if there is one
abbrev pub Fits : Option ℕ → Type 0
Fits o = IfSome o (λ n. n < 2 ^ 53)

tested : (n : ℕ) → Fits (if nat_lt n (2 ^ 53) then Some n else None)
tested n = by (nat_lt n (2 ^ 53)) refl
  where
    by : (b : Bool) → nat_lt n (2 ^ 53) ≡ b → Fits (if b then Some n else None)
    by true e = grind (arith, tests)
    by false e = tt

span_in-fits : {A : Type 0} (x : Json-F A) → Fits (span_in x)
span_in-fits (Json-F.Int (pos n)) = tested n
span_in-fits (Json-F.Int (negsuc n)) = tt
span_in-fits Json-F.Null = tt
span_in-fits (Json-F.Bool b) = tt
span_in-fits (Json-F.Text t) = tt
span_in-fits (Json-F.List xs) = tt
span_in-fits (Json-F.Object ms) = tt

span-fits : (o : Option Json) (base : ℕ) → base < 2 ^ 53 → Fits (option_map_or span_of o (Some base))
span-fits None base h = h
span-fits (Some v) base h = span_in-fits (out-Json v)

abbrev InRange : Option Timeouts → Type 0
InRange o = IfSome o AreInRange

three : (s p i : Option ℕ) → Fits s → Fits p → Fits i
    → InRange (option_and_then (λ s. option_and_then (λ p. option_and_then (λ i. Some (record { script = s; page_load = p; implicit = i })) i) p) s)
three None p i a b c = tt
three (Some s) None i a b c = tt
three (Some s) (Some p) None a b c = tt
three (Some s) (Some p) (Some i) a b c = record { script = a; page_load = b; implicit = c }

pub timeouts_in-range : (v : Json) (base : Timeouts) → AreInRange base → IfSome (timeouts_in v base) AreInRange
timeouts_in-range v base h = by (object_of v)
  where
    by : (o : Option Members) → InRange (option_and_then (λ ms. option_and_then (λ s. option_and_then (λ p. option_and_then (λ i. Some (record { script = s; page_load = p; implicit = i }))
        (span_at (codes "implicit") base.implicit ms)) (span_at (codes "pageLoad") base.page_load ms)) (span_at (codes "script") base.script ms)) o)
    by None = tt
    by (Some ms) = three (span_at (codes "script") base.script ms) (span_at (codes "pageLoad") base.page_load ms) (span_at (codes "implicit") base.implicit ms)
        (span-fits (value_of (codes "script") ms) base.script h.script) (span-fits (value_of (codes "pageLoad") ms) base.page_load h.page_load) (span-fits (value_of (codes "implicit") ms) base.implicit h.implicit)

pub ok_or-holds : {A E : Type 0} (o : Option A) (e : E) (P : A → Type 0) → IfSome o P → IfOk (ok_or o e) P
ok_or-holds (Some a) e P h = h
ok_or-holds None e P h = tt

pub default-range : AreInRange default_timeouts
default-range = record { script = search (rules, arith); page_load = search (rules, arith); implicit = search (rules, arith) }

pub read-range : (ms : Members) → AreInRange (read_at timeouts_of default_timeouts (codes "timeouts") ms)
read-range ms = by (value_of (codes "timeouts") ms)
  where
    or_default : (o : Option Timeouts) → IfSome o AreInRange → AreInRange (unwrap_or o default_timeouts)
    or_default None h = default-range
    or_default (Some t) h = h

    by : (o : Option Json) → AreInRange (unwrap_or (option_and_then timeouts_of o) default_timeouts)
    by None = default-range
    by (Some v) = or_default (timeouts_of v) (timeouts_in-range v default_timeouts default-range)
