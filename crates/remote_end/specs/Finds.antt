-- What the six finds answer, and when (Recommendation, section 12; WebDriver Level 2 for shadow roots).
use Rattle.std.specs.Prelude.{◌≡◌, ℕ, List, [], ◌∷◌, Option, Some, None, Result, Ok, Err, codes, if◌then◌else◌}
use Rattle.std.specs.Option.{unwrap_or, option_and_then}
use Rattle.std.specs.Str.{bytes_eq, chars}
use Rattle.capabilities.specs.Values.{text_of, members_of, value_of}
use Rattle.interaction.specs.Found.{Refuses}
use Rattle.interaction.specs.declared.by.By.{By}
use Rattle.interaction.specs.declared.by.By.TheVariants.{Css, Link, PartialLink, Tag}
use Rattle.references.specs.Handed.{Handed, handed}
use Rattle.references.specs.HandedAll.{named, handed_all}
use Rattle.references.specs.Identifier.{Identifier}
use Rattle.references.specs.declared.kind.Kind.TheVariants.{Element}
use Rattle.references.specs.declared.name.NodeName.{NodeName}
use Rattle.selectors.specs.Named.{first_of_list}
use Rattle.selectors.specs.declared.fault.SelFault.TheVariants.{Invalid}
use Rattle.waits.specs.Moments.{plus}
use Rattle.wd_errors.specs.declared.code.Code.{Code}
use Rattle.wd_errors.specs.declared.code.Code.TheVariants.{InvalidSelector, NoSuchElement, UnknownError}
use Rattle.wd_json.specs.declared.value.Json.{Json}
use Rattle.wd_json.specs.declared.value.Json.TheVariants.{List as ListValue}
use Rattle.remote_end.specs.declared.finds.Wanted.{Wanted}
use Rattle.remote_end.specs.declared.finds.Wanted.TheVariants.{First, All}
use Rattle.remote_end.specs.declared.session.Session.{Session}
use Rattle.remote_end.specs.declared.waiting.FindWait.{FindWait}
use Rattle.remote_end.specs.State.{Leaves}
use Rattle.remote_end.specs.Outside.{Call}
use Rattle.remote_end.specs.Plan.{Stage, Plan, at_once, AsksNothing}
use Rattle.remote_end.specs.FindSpans.{FindEnds, Passes}
use Rattle.remote_end.specs.Elements.{current_document}
use Rattle.remote_end.specs.Handing.{with_reference}
use Rattle.remote_end.specs.Replies.{success, failure}
use Rattle.remote_end.specs.Values.{reference_values}
use Rattle.remote_end.specs.declared.setting.Setting.{Setting}

-- ---- what a find is asked

-- the text of a parameter, in UTF-8
abbrev pub text_at : List ℕ → Json → Option (List ℕ)
text_at name parameters = option_and_then text_of (value_of name (members_of parameters))

-- the location strategy of a word
abbrev pub strategy_of : List ℕ → By
strategy_of word =
    if bytes_eq word (codes "css selector") then Css
    else if bytes_eq word (codes "link text") then Link
    else if bytes_eq word (codes "partial link text") then PartialLink
    else Tag

abbrev pub strategy_in : Json → By
strategy_in parameters = strategy_of (unwrap_or (text_at (codes "using") parameters) [])

abbrev pub value_in : Json → List ℕ
value_in parameters = unwrap_or (text_at (codes "value") parameters) []

-- ---- what it answers

-- the reference of the first node
abbrev pub first_plan : Session → Option ℕ → Plan
first_plan s None = at_once (failure NoSuchElement) (Leaves s)
first_plan s (Some node) = with_reference Element s (handed s.known Element (named current_document node))

-- the references of all, in their order; too few serials are left where there are none
abbrev pub with_references : Session → Option (List Identifier × Handed) → Plan
with_references s None = at_once (failure UnknownError) (Leaves s)
with_references s (Some (ids, known)) = at_once (success (ListValue (reference_values ids))) (Leaves (record s { known = known }))

abbrev pub nodes_plan : Wanted → Session → List ℕ → Plan
nodes_plan First s nodes = first_plan s (first_of_list nodes)
nodes_plan All s nodes = with_references s (handed_all s.known Element current_document nodes)

-- a plan with next moments says how the session stands before the first
abbrev pub BegunIs : List Stage → Option Session → Session → Type 0
BegunIs [] begun s = begun ≡ None
BegunIs (stage ∷ stages) begun s = begun ≡ Some s

-- the plan of a find that a session begins: what it answers at its end, and its next moments until then
pub record FindPlan (setting : Setting) (find : FindWait) (s : Session) (plan : Plan) : Type 0 where
  pub end : Session
  pub nodes : List ℕ
  pub begun : BegunIs plan.stages plan.begun s
  pub ends : FindEnds setting find s end nodes
  pub passes : Passes setting find.until s plan.stages end
  pub answers : nodes_plan find.wanted end nodes ≡ at_once plan.reply plan.after

-- the find that a command asks for, below a node or in the document, for as long as the implicit timeout
abbrev pub find_of : Wanted → Session → Option NodeName → Json → FindWait
find_of wanted s start parameters = record {
  wanted = wanted;
  start = start;
  by = strategy_in parameters;
  text = chars (value_in parameters);
  until = plus s.at s.matched.timeouts.implicit;
}

-- It is refused at once where its text is to be a selector and is none.
pub data IsFind (setting : Setting) (find : FindWait) (s : Session) (asked : List Call) (plan : Plan) : Type 0 where
  Refused : Refuses find.by find.text Invalid → AsksNothing (at_once (failure InvalidSelector) (Leaves s)) asked plan → IsFind setting find s asked plan
  Looks : FindPlan setting find s plan → asked ≡ [] → IsFind setting find s asked plan

-- ---- for private clauses

-- a find below what was looked up
abbrev pub FindsFrom : Setting → Wanted → Session → Result NodeName Code → Json → Plan → Type 0
FindsFrom setting wanted s (Err code) parameters plan = plan ≡ at_once (failure code) (Leaves s)
FindsFrom setting wanted s (Ok name) parameters plan = IsFind setting (find_of wanted s (Some name) parameters) s [] plan
