-- What a request for a session is answered with, where there is memory.
use Rattle.std.specs.Prelude.{◌≡◌, ℕ, List, [], false, Option, Some, None, Result, Ok, Err, codes}
use Rattle.std.specs.Option.{option_and_then, unwrap_or}
use Rattle.capabilities.specs.Values.{Members, bool_of, value_of}
use Rattle.capabilities.specs.Strategy.{strategy_of}
use Rattle.capabilities.specs.Behaviour.{behaviour_of}
use Rattle.capabilities.specs.Timeouts.{timeouts_of, default_timeouts}
use Rattle.capabilities.specs.Form.{Asked, asked_in}
use Rattle.capabilities.specs.Choice.{wrong_name, chosen}
use Rattle.capabilities.specs.declared.strategy.Strategy.TheVariants.{Normal}
use Rattle.capabilities.specs.declared.behaviour.Behaviour.TheVariants.{DismissNotify}
use Rattle.capabilities.specs.declared.matched.Matched.{Matched}
use Rattle.capabilities.specs.declared.fault.CapFault.{CapFault}
use Rattle.capabilities.specs.declared.fault.CapFault.TheVariants.{Invalid, NoMatch, Memory}
use Rattle.wd_json.specs.declared.value.Json.{Json}
use Rattle.wd_json.specs.declared.value.Json.TheVariants as json

-- what a merge has at a name, or the default
abbrev pub read_at : {A : Type 0} → (Json → Option A) → A → List ℕ → Members → A
read_at read default name ms = unwrap_or (option_and_then read (value_of name ms)) default

-- as it is given, or an empty object
abbrev pub proxy_at : List ℕ → Members → Json
proxy_at name ms = unwrap_or (value_of name ms) (json.Object [])

abbrev pub matched_of : Members → Matched
matched_of ms = record {
  insecure = read_at bool_of false (codes "acceptInsecureCerts") ms;
  strategy = read_at strategy_of Normal (codes "pageLoadStrategy") ms;
  proxy = proxy_at (codes "proxy") ms;
  strict = read_at bool_of false (codes "strictFileInteractability") ms;
  timeouts = read_at timeouts_of default_timeouts (codes "timeouts") ms;
  behaviour = read_at behaviour_of DismissNotify (codes "unhandledPromptBehavior") ms;
}

abbrev pub answer_of_merge : Option Members → Result Matched CapFault
answer_of_merge None = Err NoMatch
answer_of_merge (Some ms) = Ok (matched_of ms)

abbrev pub answer_of_names : Option (List ℕ) → Option Members → Result Matched CapFault
answer_of_names (Some name) merge = Err (Invalid name)
answer_of_names None merge = answer_of_merge merge

-- the first name that is wrong, else what the first merge that matches has, else that none does
unfoldable pub answer_of : List ℕ → Members → List Members → Result Matched CapFault
answer_of offered always firsts = answer_of_names (wrong_name always firsts) (chosen offered always firsts)

abbrev pub answer_of_form : List ℕ → Result Asked (List ℕ) → Result Matched CapFault
answer_of_form offered (Err part) = Err (Invalid part)
answer_of_form offered (Ok asked) = answer_of offered asked.always asked.firsts

-- the form of the request comes before all names
unfoldable pub processed : List ℕ → Json → Result Matched CapFault
processed offered parameters = answer_of_form offered (asked_in parameters)

-- an error is the answer's, or there was no memory
abbrev pub IsCause : Result Matched CapFault → CapFault → Type 0
IsCause answer (Invalid name) = answer ≡ Err (Invalid name)
IsCause answer NoMatch = answer ≡ Err NoMatch
IsCause answer Memory = Unit {0}

-- for private clauses: an error of this part, or there was no memory
abbrev pub NamesPart : List ℕ → CapFault → Type 0
NamesPart part (Invalid name) = name ≡ part
NamesPart part NoMatch = ⊥
NamesPart part Memory = Unit {0}
