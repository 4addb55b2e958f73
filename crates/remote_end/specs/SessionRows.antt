-- The rows on sessions: New Session, Delete Session, Status, and the two on timeouts (Recommendation, section 8).
use Rattle.std.specs.Prelude.{ℕ, List, Option, Some, None, Result, Ok, Err}
use Rattle.capabilities.specs.Processed.{processed}
use Rattle.capabilities.specs.Timeouts.{timeouts_in, timeouts_object}
use Rattle.capabilities.specs.declared.matched.Matched.{Matched}
use Rattle.capabilities.specs.declared.timeouts.Timeouts.{Timeouts}
use Rattle.capabilities.specs.declared.fault.CapFault.{CapFault}
use Rattle.wd_errors.specs.declared.code.Code.TheVariants.{InvalidArgument}
use Rattle.wd_json.specs.declared.value.Json.{Json}
use Rattle.wd_json.specs.declared.value.Json.TheVariants.{Null}
use Rattle.remote_end.specs.declared.order.Order.{Order}
use Rattle.remote_end.specs.declared.session.Session.{Session}
use Rattle.remote_end.specs.declared.setting.Setting.{Setting}
use Rattle.remote_end.specs.Opening.{opened, session_value, fault_code}
use Rattle.remote_end.specs.Outside.{Call}
use Rattle.remote_end.specs.Plan.{Plan, at_once, AsksNothing}
use Rattle.remote_end.specs.Replies.{success, failure}
use Rattle.remote_end.specs.State.{State, is_full, Same, Leaves, Ends, Opens}
use Rattle.remote_end.specs.Values.{status_value}

-- ---- without a session

abbrev pub new_session : Setting → State → ℕ → Result Matched CapFault → Plan
new_session setting state reading (Ok matched) =
    let s : Session = opened setting state.next matched reading in at_once (success (session_value setting s)) (Opens s)
new_session setting state reading (Err fault) = at_once (failure (fault_code fault)) Same

abbrev pub NewSessionRow : Setting → State → Json → ℕ → List Call → Plan → Type 0
NewSessionRow setting state parameters reading asked plan =
    AsksNothing (new_session setting state reading (processed setting.offer.name parameters)) asked plan

abbrev pub StatusRow : Setting → State → Json → ℕ → List Call → Plan → Type 0
StatusRow setting state parameters reading asked plan = AsksNothing (at_once (success (status_value (is_full state))) Same) asked plan

-- ---- of a session

abbrev pub DeleteRow : Setting → Order → Session → List Call → Plan → Type 0
DeleteRow setting order s asked plan = AsksNothing (at_once (success Null) Ends) asked plan

abbrev pub timeouts_plan : Session → Plan
timeouts_plan s = at_once (success (timeouts_object s.matched.timeouts)) (Leaves s)

abbrev pub TimeoutsRow : Setting → Order → Session → List Call → Plan → Type 0
TimeoutsRow setting order s asked plan = AsksNothing (timeouts_plan s) asked plan

abbrev pub with_timeouts : Session → Timeouts → Session
with_timeouts s timeouts = record s { matched = record s.matched { timeouts = timeouts } }

-- all that are given are set at once, or none
abbrev pub set_timeouts_plan : Session → Option Timeouts → Plan
set_timeouts_plan s None = at_once (failure InvalidArgument) (Leaves s)
set_timeouts_plan s (Some timeouts) = at_once (success Null) (Leaves (with_timeouts s timeouts))

abbrev pub SetTimeoutsRow : Setting → Order → Session → List Call → Plan → Type 0
SetTimeoutsRow setting order s asked plan = AsksNothing (set_timeouts_plan s (timeouts_in order.parameters s.matched.timeouts)) asked plan
