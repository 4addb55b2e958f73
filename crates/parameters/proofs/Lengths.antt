-- The three lengths of an object of timeouts are looked at as `read_timeouts` looks at them.
use Rattle.std.proofs.Common.{◌≡◌, ℕ, List, Option, Some, None, is_some, codes, refl, ap, sym, ◌∙◌}
use Rattle.std.specs.Option.{option_map_or, option_and_then}
use Rattle.capabilities.specs.Choice.{or_else}
use Rattle.capabilities.specs.Timeouts.{span_of, span_at, timeouts_in}
use Rattle.capabilities.specs.Values.{Members}
use Rattle.capabilities.specs.declared.timeouts.Timeouts.{Timeouts}
use Rattle.endpoints.specs.declared.command.Command.TheVariants.{SetTimeouts}
use Rattle.parameters.specs.Kinds.{invalid_unless, refusal_at}
use Rattle.parameters.specs.Refusals.{refusal_in}
use Rattle.parameters.specs.declared.kind.Kind.TheVariants.{Span}
use Rattle.parameters.proofs.Lookups.{get-value, object_of-Object}
use Rattle.wd_errors.specs.declared.code.Code.{Code}
use Rattle.wd_json.specs.Keys.{get}
use Rattle.wd_json.specs.declared.value.Json.{Json}
use Rattle.wd_json.specs.declared.value.Json.TheVariants.{Object}

abbrev span_in : Option Json → ℕ → Option ℕ
span_in value base = option_map_or span_of value (Some base)

one : (value : Option Json) (base : ℕ) → refusal_at Span value ≡ invalid_unless (is_some (span_in value base))
one None base = refl
one (Some v) base = refl

abbrev joined : Option ℕ → Option ℕ → Option ℕ → Option Timeouts
joined x y z = option_and_then (λ s. option_and_then (λ p. option_and_then (λ i. Some (record { script = s; page_load = p; implicit = i })) z) y) x

abbrev first : Option Code → Option Code → Option Code → Option Code
first x y z = or_else x (or_else y (or_else z None))

three : (x y z : Option ℕ) → first (invalid_unless (is_some x)) (invalid_unless (is_some y)) (invalid_unless (is_some z)) ≡ invalid_unless (is_some (joined x y z))
three None y z = refl
three (Some s) None z = refl
three (Some s) (Some p) None = refl
three (Some s) (Some p) (Some i) = refl

looked_up : (name : List ℕ) (ms : Members) (base : ℕ) → refusal_at Span (get name ms) ≡ invalid_unless (is_some (span_at name base ms))
looked_up name ms base = one (get name ms) base ∙ ap (λ v. invalid_unless (is_some (span_in v base))) (get-value name ms)

pub as_read : (ms : Members) (base : Timeouts) → refusal_in SetTimeouts ms ≡ invalid_unless (is_some (timeouts_in (Object ms) base))
as_read ms base =
    ap (λ r. first r (refusal_at Span (get (codes "pageLoad") ms)) (refusal_at Span (get (codes "implicit") ms))) (looked_up (codes "script") ms base.script)
    ∙ ap (λ r. first (invalid_unless (is_some (span_at (codes "script") base.script ms))) r (refusal_at Span (get (codes "implicit") ms))) (looked_up (codes "pageLoad") ms base.page_load)
    ∙ ap (λ r. first (invalid_unless (is_some (span_at (codes "script") base.script ms))) (invalid_unless (is_some (span_at (codes "pageLoad") base.page_load ms))) r) (looked_up (codes "implicit") ms base.implicit)
    ∙ three (span_at (codes "script") base.script ms) (span_at (codes "pageLoad") base.page_load ms) (span_at (codes "implicit") base.implicit ms)
    ∙ ap (λ (o : Option Members). invalid_unless (is_some (option_and_then (λ (r : Members). joined (span_at (codes "script") base.script r) (span_at (codes "pageLoad") base.page_load r) (span_at (codes "implicit") base.implicit r)) o))) (sym (object_of-Object ms))
