-- A command that waits in its session: what is left of its plan, its next moment, and what is done at it.
use Rattle.std.specs.Prelude.{◌≡◌, ◌≤◌, ◌<◌, ◌+◌, ℕ, List, [], Option, Some, None, IsTrue, length}
use Rattle.std.specs.List.{All}
use Rattle.interaction.specs.declared.by.By.{By}
use Rattle.interaction.specs.declared.by.By.TheVariants.{Css, Link, PartialLink, Tag}
use Rattle.page_engine.specs.Scene.{PageState}
use Rattle.waits.specs.Moments.{last_moment}
use Rattle.wd_http.specs.Sent.{is_status}
use Rattle.selectors.specs.Grammar.{GrammarIs}
use Rattle.selectors.specs.declared.selector.Complex.{Complex}
use Rattle.remote_end.specs.declared.outcome.Outcome.{Outcome}
use Rattle.remote_end.specs.declared.outcome.Outcome.TheVariants.{Replied, Ended as HasEndedSession, Waits}
use Rattle.remote_end.specs.declared.reply.Reply.{Reply}
use Rattle.remote_end.specs.declared.session.Session.{Session}
use Rattle.remote_end.specs.declared.waiting.FindWait.{FindWait}
use Rattle.remote_end.specs.declared.waiting.Waiting.{Waiting}
use Rattle.remote_end.specs.declared.waiting.Waiting.TheVariants.{Find, Ended}
use Rattle.remote_end.specs.State.{Leaves, session_numbered, IsWhole}
use Rattle.remote_end.specs.Plan.{Plan, at_once}
use Rattle.remote_end.specs.Advance.{Advanced, NoneDue}
use Rattle.remote_end.specs.FindSpans.{Gives, EndsAt, soonest}
use Rattle.remote_end.specs.Finds.{nodes_plan, FindPlan}
use Rattle.remote_end.specs.declared.setting.Setting.{Setting}

-- the session without its command
abbrev pub settled : Session → Session
settled s = record s { waiting = None }

abbrev pub with_waiting : Session → Waiting → Session
with_waiting s waiting = record s { waiting = Some waiting }

-- ---- what is left of its plan

abbrev pub PlansIn : Setting → Option Waiting → Session → Plan → Type 0
PlansIn setting None s plan = ⊥
PlansIn setting (Some (Find find)) s plan = FindPlan setting find s plan
PlansIn setting (Some (Ended reply)) s plan = plan ≡ at_once reply (Leaves s)

-- the plan of the command that waits in a session, from here on
abbrev pub IsPlanOf : Setting → Session → Plan → Type 0
IsPlanOf setting s plan = PlansIn setting s.waiting (settled s) plan

-- ---- its next moment

abbrev pub next_in : Option Waiting → Session → Option ℕ
next_in None s = None
next_in (Some (Find find)) s = Some (soonest find.until s.page.pending)
next_in (Some (Ended reply)) s = None

abbrev pub next_moment : Session → Option ℕ
next_moment s = next_in s.waiting s

-- no command waits
abbrev pub AreIdle : List Session → Type 0
AreIdle sessions = All (λ s. s.waiting ≡ None) sessions

-- the next moment of the session with that number, where a command of it waits
abbrev pub busy_in : Option Session → Option ℕ
busy_in None = None
busy_in (Some s) = next_moment s

abbrev pub busy_of : ℕ → List Session → Option ℕ
busy_of number sessions = busy_in (session_numbered number sessions)

-- how many next moments it can still have, at most
abbrev pub left_in : Option Waiting → PageState → ℕ
left_in None page = 0
left_in (Some (Find find)) page = length page.pending + 1
left_in (Some (Ended reply)) page = 0

abbrev pub left_of : Session → ℕ
left_of s = left_in s.waiting s.page

-- ---- what is done at it

-- The session advances, and the find is looked at again. It goes on where it gives no node before the end of its
-- span; else it has ended.
pub data FindSteps (setting : Setting) (find : FindWait) (old : Session) (moment : ℕ) (new : Session) : Type 0 where
  GoesOn : (mid : Session) → Advanced setting old moment mid → Gives find mid.page.rows [] → moment < find.until
      → new ≡ with_waiting mid (Find find) → FindSteps setting find old moment new
  HasEnded : (end left : Session) (nodes : List ℕ) (reply : Reply) → Advanced setting old moment end → Gives find end.page.rows nodes → EndsAt find nodes moment
      → nodes_plan find.wanted end nodes ≡ at_once reply (Leaves left) → new ≡ with_waiting left (Ended reply) → FindSteps setting find old moment new

abbrev pub StepsIn : Setting → Option Waiting → Session → ℕ → Session → Type 0
StepsIn setting None old moment new = ⊥
StepsIn setting (Some (Find find)) old moment new = FindSteps setting find old moment new
StepsIn setting (Some (Ended reply)) old moment new = ⊥

abbrev pub StepsAt : Setting → Session → ℕ → Session → Type 0
StepsAt setting old moment new = StepsIn setting old.waiting (settled old) moment new

-- ---- for private clauses

-- in a setting, which stays
abbrev pub StepsGoing : Setting × Session → ℕ → Setting × Session → Type 0
StepsGoing old moment new = StepsAt old.0 old.1 moment new.1 × (new.0 ≡ old.0)

-- a text that is to be a selector is one
abbrev pub IsSought : By → List ℕ → Type 0
IsSought Css text = (selector : List Complex) × GrammarIs text selector
IsSought Link text = Unit {0}
IsSought PartialLink text = Unit {0}
IsSought Tag text = Unit {0}

-- a find that waits: it can look, it gives nothing so far, the end of its span is to come, and no timer is overdue
pub record FindFits (find : FindWait) (page : PageState) (moment : ℕ) : Type 0 where
  pub sought : IsSought find.by find.text
  pub nothing : Gives find page.rows []
  pub short : moment < find.until
  pub within : find.until ≤ last_moment
  pub still : NoneDue page.pending moment

-- what waits in an open session fits it, between two calls
abbrev pub Fits : Option Waiting → PageState → ℕ → Type 0
Fits None page moment = Unit {0}
Fits (Some (Find find)) page moment = FindFits find page moment
Fits (Some (Ended reply)) page moment = ⊥

-- and within a call, where it may have ended
abbrev pub FitsOrEnded : Option Waiting → PageState → ℕ → Type 0
FitsOrEnded None page moment = ⊥
FitsOrEnded (Some (Find find)) page moment = FindFits find page moment
FitsOrEnded (Some (Ended reply)) page moment = Unit {0}

-- what it ended with has a status
abbrev pub EndedWell : Option Waiting → Type 0
EndedWell None = Unit {0}
EndedWell (Some (Find find)) = Unit {0}
EndedWell (Some (Ended reply)) = IsTrue (is_status reply.status)

abbrev pub IsOver : Waiting → Type 0
IsOver (Find find) = ⊥
IsOver (Ended reply) = Unit {0}

-- an open session between two calls
pub record IsKept (s : Session) : Type 0 where
  pub whole : IsWhole s
  pub fits : Fits s.waiting s.page s.at

-- a session whose command goes on, within a call
pub record IsGoing (s : Session) : Type 0 where
  pub whole : IsWhole s
  pub fits : FitsOrEnded s.waiting s.page s.at
  pub status : EndedWell s.waiting

-- a row that replies leaves nothing waiting in the session
abbrev pub RowLeaves : Outcome → Session → Type 0
RowLeaves (Replied reply) s = (s.waiting ≡ None) × IsTrue (is_status reply.status)
RowLeaves (HasEndedSession reply) s = IsTrue (is_status reply.status)
RowLeaves Waits s = IsGoing s
