-- The parameters of a request, or the code with which it is refused.
use Rattle.std.specs.Prelude.{◌≡◌, ℕ, List, Some, None}
use Rattle.capabilities.specs.Values.{Members}
use Rattle.endpoints.specs.declared.route.Route.{Route}
use Rattle.parameters.specs.Body.{IsObjectFor, HasNone}
use Rattle.parameters.specs.Refusals.{refusal_in}
use Rattle.wd_json.specs.declared.fault.Fault.{Fault}
use Rattle.wd_json.specs.declared.fault.Fault.TheVariants.{Refused, Memory}
use Rattle.wd_errors.specs.declared.code.Code.{Code}
use Rattle.wd_errors.specs.declared.code.Code.TheVariants.{InvalidArgument}
use Rattle.wd_json.specs.declared.value.Json.{Json}
use Rattle.wd_json.specs.declared.value.Json.TheVariants.{Object}

-- the request's object, and its command doesn't refuse it
pub record IsParametersOf (route : Route) (body : List ℕ) (json : Json) : Type 0 where
  pub members : Members
  pub is : json ≡ Object members
  pub read : IsObjectFor route.command body members
  pub passes : refusal_in route.command members ≡ None

-- The request has no object, or its command refuses the one that it has.
pub data IsRefusedBy (route : Route) (body : List ℕ) (code : Code) : Type 0 where
  NoObject : HasNone route.command body → code ≡ InvalidArgument → IsRefusedBy route body code
  AtObject : (members : Members) → IsObjectFor route.command body members
      → refusal_in route.command members ≡ Some code → IsRefusedBy route body code

-- an error is the refusal, or there was no memory
abbrev pub IsCause : Route → List ℕ → Fault Code → Type 0
IsCause route body (Refused code) = IsRefusedBy route body code
IsCause route body Memory = Unit {0}
