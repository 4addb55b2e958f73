-- The route of a request, and why there is none.
use Rattle.std.specs.Prelude.{◌≡◌, ◌≢◌, ℕ, List, true, Option, codes}
use Rattle.std.specs.Option.{option_map, IfSome}
use Rattle.std.specs.Str.{IsUtf8, encode_utf8_all}
use Rattle.wd_errors.specs.declared.code.Code.{Code}
use Rattle.wd_errors.specs.declared.code.Code.TheVariants.{UnknownCommand, UnknownMethod}
use Rattle.endpoints.specs.declared.command.Command.{Command}
use Rattle.endpoints.specs.declared.route.Route.{Route}
use Rattle.wd_json.specs.declared.fault.Fault.{Fault}
use Rattle.wd_json.specs.declared.fault.Fault.TheVariants.{Refused, Memory}
use Rattle.endpoints.specs.Table.{row_of}
use Rattle.endpoints.specs.Path.{path_in, segments, fits, value_of}

-- the segments of a command's path, and those of a target's
abbrev pub pattern : Command → List (List ℕ)
pattern c = segments (row_of c).path

abbrev pub asked : List ℕ → List (List ℕ)
asked target = segments (path_in target)

-- the path fits the command's
abbrev pub FitsPath : Command → List (List ℕ) → Type 0
FitsPath c path = fits (pattern c) path ≡ true

-- what a path has for a variable of the command's path
abbrev pub value_in : List ℕ → Command → List (List ℕ) → Option (List ℕ)
value_in variable c path = value_of variable (pattern c) path

-- what a path has for each variable is a text
pub record AllTexts (c : Command) (path : List (List ℕ)) : Type 0 where
  pub session : IfSome (value_in (codes "{session}") c path) IsUtf8
  pub item : IfSome (value_in (codes "{item}") c path) IsUtf8
  pub name : IfSome (value_in (codes "{name}") c path) IsUtf8

-- the same, for the path of a target
abbrev pub Fits : Command → List ℕ → Type 0
Fits c target = FitsPath c (asked target)

abbrev pub bytes_for : List ℕ → Command → List ℕ → Option (List ℕ)
bytes_for variable c target = value_in variable c (asked target)

abbrev pub HasTexts : Command → List ℕ → Type 0
HasTexts c target = AllTexts c (asked target)

-- the row whose path fits and whose method is the same, with what the target has for its variables
pub record IsRouteOf (method target : List ℕ) (route : Route) : Type 0 where
  pub method_is : (row_of route.command).method ≡ method
  pub path_fits : Fits route.command target
  pub texts : HasTexts route.command target
  pub session : option_map encode_utf8_all route.session ≡ bytes_for (codes "{session}") route.command target
  pub item : option_map encode_utf8_all route.item ≡ bytes_for (codes "{item}") route.command target
  pub name : option_map encode_utf8_all route.name ≡ bytes_for (codes "{name}") route.command target

-- the same command, and the same texts
pub record SameRoute (a b : Route) : Type 0 where
  pub command : a.command ≡ b.command
  pub session : option_map encode_utf8_all a.session ≡ option_map encode_utf8_all b.session
  pub item : option_map encode_utf8_all a.item ≡ option_map encode_utf8_all b.item
  pub name : option_map encode_utf8_all a.name ≡ option_map encode_utf8_all b.name

-- no path of the table fits with texts for its variables
abbrev pub IsUnknownCommand : List ℕ → Type 0
IsUnknownCommand target = (c : Command) → Fits c target → HasTexts c target → ⊥

-- a path fits, with texts for its variables, and no command of such a path has the method
pub record IsUnknownMethod (method target : List ℕ) : Type 0 where
  pub some : (c : Command) × Fits c target × HasTexts c target
  pub others : (c : Command) → Fits c target → (row_of c).method ≢ method

abbrev pub IsRefusal : List ℕ → List ℕ → Code → Type 0
IsRefusal method target UnknownCommand = IsUnknownCommand target
IsRefusal method target UnknownMethod = IsUnknownMethod method target
IsRefusal method target code = ⊥

-- why a request has no route
abbrev pub IsCause : List ℕ → List ℕ → Fault Code → Type 0
IsCause method target (Refused code) = IsRefusal method target code
IsCause method target Memory = Unit {0}

-- ---- for private clauses

-- why a variable gives no text
abbrev pub IsNoCode : Option (List ℕ) → Code → Type 0
IsNoCode bytes UnknownCommand = IfSome bytes IsUtf8 → ⊥
IsNoCode bytes code = ⊥

abbrev pub IsNoText : Option (List ℕ) → Fault Code → Type 0
IsNoText bytes (Refused code) = IsNoCode bytes code
IsNoText bytes Memory = Unit {0}

-- the command with what a path has for its variables
pub record IsRead (c : Command) (path : List (List ℕ)) (route : Route) : Type 0 where
  pub command : route.command ≡ c
  pub texts : AllTexts c path
  pub session : option_map encode_utf8_all route.session ≡ value_in (codes "{session}") c path
  pub item : option_map encode_utf8_all route.item ≡ value_in (codes "{item}") c path
  pub name : option_map encode_utf8_all route.name ≡ value_in (codes "{name}") c path

-- why a path gives no such route
abbrev pub IsUnread : Command → List (List ℕ) → Fault Code → Type 0
IsUnread c path (Refused UnknownCommand) = AllTexts c path → ⊥
IsUnread c path (Refused code) = ⊥
IsUnread c path Memory = Unit {0}
