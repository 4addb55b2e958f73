-- Why a command refuses an object: the first of its parameters, in the order of its row, that breaks its kind.
use Rattle.std.specs.Prelude.{List, [], ◌∷◌, Option, Some, None, if◌then◌else◌}
use Rattle.capabilities.specs.Choice.{or_else}
use Rattle.capabilities.specs.Values.{Members}
use Rattle.endpoints.specs.declared.command.Command.{Command}
use Rattle.parameters.specs.Kinds.{refusal_at}
use Rattle.parameters.specs.Table.{name_of, kind_of, row_of, is_unsupported}
use Rattle.parameters.specs.declared.parameter.Parameter.{Parameter}
use Rattle.wd_errors.specs.declared.code.Code.{Code}
use Rattle.wd_errors.specs.declared.code.Code.TheVariants.{UnsupportedOperation}
use Rattle.wd_json.specs.Keys.{get}

-- what is answered to the object for one parameter, if it is refused
abbrev pub refusal_by : Members → Parameter → Option Code
refusal_by ms p = refusal_at (kind_of p) (get (name_of p) ms)

-- the first of these
abbrev pub first_refusal : Members → List Parameter → Option Code
first_refusal ms [] = None
first_refusal ms (p ∷ ps) = or_else (refusal_by ms p) (first_refusal ms ps)

-- a command that isn't supported is refused whatever the object
abbrev pub refusal_in : Command → Members → Option Code
refusal_in c ms = if is_unsupported c then Some UnsupportedOperation else first_refusal ms (row_of c)
