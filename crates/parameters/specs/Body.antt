-- The object in which a command looks for its parameters.
use Rattle.std.specs.Prelude.{◌≡◌, ℕ, List, [], Bool, true, false, codes}
use Rattle.capabilities.specs.Values.{Members, same_text}
use Rattle.endpoints.specs.declared.command.Command.{Command}
use Rattle.endpoints.specs.Table.{row_of}
use Rattle.wd_json.specs.declared.fault.Fault.{Fault}
use Rattle.wd_json.specs.declared.fault.Fault.TheVariants.{Refused, Memory}
use Rattle.wd_errors.specs.declared.code.Code.{Code}
use Rattle.wd_errors.specs.declared.code.Code.TheVariants.{InvalidArgument}
use Rattle.wd_json.specs.Json.{data_of}
use Rattle.wd_json.specs.Whole.{ReadsAs, is_whole}
use Rattle.wd_json.specs.declared.value.Json.TheVariants.{Object}

-- the bytes are the text of this JSON object, whose numbers are whole
pub record IsObjectOf (bytes : List ℕ) (members : Members) : Type 0 where
  pub reads : ReadsAs bytes (data_of (Object members))
  pub whole : is_whole (data_of (Object members)) ≡ true

-- the command is sent by POST, with a body
abbrev pub is_post : Command → Bool
is_post c = same_text (row_of c).method (codes "POST")

abbrev pub IsObjectBy : Bool → List ℕ → Members → Type 0
IsObjectBy true body members = IsObjectOf body members
IsObjectBy false body members = members ≡ []

-- for a POST the body's object, and else an empty one
abbrev pub IsObjectFor : Command → List ℕ → Members → Type 0
IsObjectFor c body members = IsObjectBy (is_post c) body members

-- there is no such object: a POST's body is no object
abbrev pub HasNone : Command → List ℕ → Type 0
HasNone c body = (members : Members) → IsObjectFor c body members → ⊥

-- for private clauses: why there is no object
abbrev pub IsNoObject : List ℕ → Fault Code → Type 0
IsNoObject body (Refused code) = ((members : Members) → IsObjectOf body members → ⊥) × (code ≡ InvalidArgument)
IsNoObject body Memory = Unit {0}

abbrev pub LacksObject : Command → List ℕ → Fault Code → Type 0
LacksObject c body (Refused code) = HasNone c body × (code ≡ InvalidArgument)
LacksObject c body Memory = Unit {0}
