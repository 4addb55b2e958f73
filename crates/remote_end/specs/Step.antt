-- One step of the command machine.
use Rattle.std.specs.Prelude.{◌≡◌, ◌≤◌, ◌<◌, ℕ, max, List, [], ◌∷◌, ◌++◌, Option, Some, None, Result, Ok, Err, slice_get, slice_set}
use Rattle.std.specs.List.{remove}
use Rattle.wd_errors.specs.declared.code.Code.{Code}
use Rattle.wd_http.specs.declared.request.Request.{Request}
use Rattle.remote_end.specs.declared.reply.Reply.{Reply}
use Rattle.remote_end.specs.declared.order.Order.{Order}
use Rattle.remote_end.specs.declared.outcome.Outcome.{Outcome as RowOutcome}
use Rattle.remote_end.specs.declared.outcome.Outcome.TheVariants.{Replied as RowReplied, Ended as RowEnded, Waits as RowWaits}
use Rattle.remote_end.specs.declared.session.Session.{Session}
use Rattle.remote_end.specs.declared.step.Step.{Step as Outcome}
use Rattle.remote_end.specs.declared.step.Step.TheVariants.{Reply as Replied, Wait}
use Rattle.remote_end.specs.declared.setting.Setting.{Setting}
use Rattle.remote_end.specs.State.{State, After, Same, Leaves, Ends, Opens, own_place, place_numbered, session_named, changed}
use Rattle.remote_end.specs.Outside.{Call, Now, Rest}
use Rattle.remote_end.specs.Plan.{Stage, Plan, at_once, AsksNothing}
use Rattle.remote_end.specs.Moments.{start_of, next_after}
use Rattle.remote_end.specs.Advance.{Advanced}
use Rattle.remote_end.specs.Replies.{failure}
use Rattle.remote_end.specs.Meaning.{Means, target_bytes}
use Rattle.remote_end.specs.Naming.{session_of}
use Rattle.remote_end.specs.Rows.{row_of, IsOwn, IsAlone}
use Rattle.remote_end.specs.Waits.{IsPlanOf, next_moment, busy_of, left_of}
use Rattle.remote_end.specs.Carried.{LeavesIdle, ComesTo}

-- a rest is made exactly while there is a later next moment; it asks for that moment
abbrev pub Rests : List Stage → ℕ → List Call → Type 0
Rests stages reached [] = next_after stages reached ≡ None
Rests stages reached (Rest asked answer ∷ calls) =
    (next_after stages reached ≡ Some asked) × (asked ≤ answer) × Rests stages (max reached answer) calls
Rests stages reached (Now answer ∷ calls) = ⊥

-- what a command does of a session that stands at its start
abbrev pub IsRow : Setting → Order → Session → List Call → Plan → Type 0
IsRow setting order s asked plan = IsOwn (row_of order.route.command) setting order s asked plan

-- What a command does that is begun with a reading, without a session or of the session that it names, which
-- first advances to the command's start.
abbrev pub IsActOf : Setting → State → Order → ℕ → Option Session → List Call → Plan → Type 0
IsActOf setting state order reading None asked plan = IsAlone (row_of order.route.command) setting state order.parameters reading asked plan
IsActOf setting state order reading (Some s) asked plan =
    (begun : Session) × Advanced setting s (start_of (Some s) reading) begun × IsRow setting order begun asked plan

-- what a request does that is begun with a reading; one that is refused advances no session
abbrev pub IsActFor : Setting → State → Result Order Code → ℕ → List Call → Plan → Type 0
IsActFor setting state (Ok order) reading asked plan = IsActOf setting state order reading (session_named order.route.session state.sessions) asked plan
IsActFor setting state (Err code) reading asked plan = AsksNothing (at_once (failure code) Same) asked plan

-- the session that a command names
abbrev pub own : Result Order Code → Option (List ℕ)
own (Ok order) = order.route.session
own (Err code) = None

-- A request is answered: it is read as a command or refused, the clock is read once, its row asks the outside for
-- what it needs, its rests are made, and the reply and the next state are those of its plan.
pub record Step (setting : Setting) (old : State) (request : Request) (calls : List Call) (reply : Reply) (new : State) : Type 0 where
  pub meaning : Result Order Code
  pub means : Means old request meaning
  pub reading : ℕ
  pub asked : List Call
  pub rests : List Call
  pub plan : Plan
  pub act : IsActFor setting old meaning reading asked plan
  pub calls_are : calls ≡ Now reading ∷ asked ++ rests
  pub waits : Rests plan.stages (start_of (session_named (own meaning) old.sessions) reading) rests
  pub reply_is : reply ≡ plan.reply
  pub new_is : new ≡ changed old (own meaning) plan.after

-- no proof above opens a step
unfoldable pub Steps : Setting → State → Request → List Call → Reply → State → Type 0
Steps setting old request calls reply new = Step setting old request calls reply new

-- ---- a command that is begun

-- it waits in the session that a request names, which has that number
abbrev pub IsNamed : Outcome → Option (List ℕ) → List Session → Type 0
IsNamed (Replied reply) named sessions = Unit {0}
IsNamed (Wait number until) named sessions = (place : ℕ) × (own_place named sessions ≡ Some place) × (place_numbered number sessions ≡ Some place)

-- a request is begun with a reading: its command is carried to its start, and has ended there or waits
pub record Begins (setting : Setting) (old : State) (request : Request) (reading : ℕ) (new : State) (outcome : Outcome) : Type 0 where
  pub meaning : Result Order Code
  pub means : Means old request meaning
  pub after : After
  pub comes : ComesTo setting (IsActFor setting old meaning reading []) (start_of (session_named (own meaning) old.sessions) reading) outcome after
  pub named : IsNamed outcome (own meaning) old.sessions
  pub new_is : new ≡ changed old (own meaning) after

-- the command that waits in the session at that place is carried to a reading; no other session changes
pub record GoesOn (setting : Setting) (old : List Session) (place reading : ℕ) (new : List Session) (outcome : Outcome) : Type 0 where
  pub session : Session
  pub here : slice_get old place ≡ Some session
  pub left : Session
  pub comes : ComesTo setting (IsPlanOf setting session) reading outcome (Leaves left)
  pub number : left.number ≡ session.number
  -- a reading that reaches the next moment leaves it fewer
  pub fewer : (until : ℕ) → next_moment session ≡ Some until → until ≤ reading → left_of left < left_of session
  pub new_is : new ≡ slice_set old place left

-- the command that waits in the session with that number is resumed with a reading
pub record Resumes (setting : Setting) (old : State) (number reading : ℕ) (new : State) (outcome : Outcome) : Type 0 where
  pub place : ℕ
  pub place_is : place_numbered number old.sessions ≡ Some place
  pub goes : GoesOn setting old.sessions place reading new.sessions outcome
  pub next : new.next ≡ old.next

-- no command waits in the session that a request's path names
abbrev pub IsFree : State → Request → Type 0
IsFree state request = (number : ℕ) → session_of (target_bytes request) state.sessions ≡ Some number → busy_of number state.sessions ≡ None

-- ---- for private clauses

-- a command, begun with a reading, comes to this
pub record ActsAt (setting : Setting) (old : State) (order : Order) (reading : ℕ) (new : State) (outcome : Outcome) : Type 0 where
  pub after : After
  pub comes : ComesTo setting (IsActOf setting old order reading (session_named order.route.session old.sessions) []) (start_of (session_named order.route.session old.sessions) reading) outcome after
  pub named : IsNamed outcome order.route.session old.sessions
  pub new_is : new ≡ changed old order.route.session after

-- a plan that ends at once, with this reply, and what it leaves of sessions
pub record EndsWith (plan : Plan) (old : State) (named : Option (List ℕ)) (new : State) (reply : Reply) : Type 0 where
  pub after : After
  pub plan_is : plan ≡ at_once reply after
  pub idle : LeavesIdle after
  pub new_is : new ≡ changed old named after

-- a command without a session ends at once, with this reply
pub record RunsAlone (setting : Setting) (order : Order) (reading : ℕ) (old : State) (named : Option (List ℕ)) (new : State) (reply : Reply) : Type 0 where
  pub after : After
  pub act : IsAlone (row_of order.route.command) setting old order.parameters reading [] (at_once reply after)
  pub idle : LeavesIdle after
  pub new_is : new ≡ changed old named after

-- The open sessions after a command of the one at that place.
abbrev pub AreLeft : List Session → ℕ → List Session → After → Type 0
AreLeft old place new Same = new ≡ old
AreLeft old place new (Leaves s) = new ≡ slice_set old place s
AreLeft old place new Ends = new ≡ remove old place
AreLeft old place new (Opens s) = ⊥

abbrev pub NumberIs : Outcome → Session → Type 0
NumberIs (Replied reply) s = Unit {0}
NumberIs (Wait number until) s = number ≡ s.number

-- a command of the session at that place comes to this
pub record RunsAt (setting : Setting) (order : Order) (reading : ℕ) (old : List Session) (place : ℕ) (new : List Session) (outcome : Outcome) : Type 0 where
  pub session : Session
  pub here : slice_get old place ≡ Some session
  pub begun : Session
  pub advanced : Advanced setting session (start_of (Some session) reading) begun
  pub after : After
  pub comes : ComesTo setting (IsRow setting order begun []) (start_of (Some session) reading) outcome after
  pub number : NumberIs outcome session
  pub left : AreLeft old place new after

-- A row has a reply, which leaves the session or ends it, at once, or its command waits in the session with one of
-- these plans.
abbrev pub RowComes : Setting → (Plan → Type 0) → RowOutcome → Session → Type 0
RowComes setting IsPlan (RowReplied reply) new = IsPlan (at_once reply (Leaves new))
RowComes setting IsPlan (RowEnded reply) new = IsPlan (at_once reply Ends)
RowComes setting IsPlan RowWaits new = (plan : Plan) → IsPlanOf setting new plan → IsPlan plan

-- the command of a session, begun at a moment, comes to this
pub record BeginsIn (setting : Setting) (order : Order) (start : ℕ) (old : Session) (outcome : RowOutcome) (new : Session) : Type 0 where
  pub begun : Session
  pub advanced : Advanced setting old start begun
  pub comes : RowComes setting (IsRow setting order begun []) outcome new
