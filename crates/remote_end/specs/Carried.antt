-- What a command comes to that is carried to a moment, by its plans.
use Rattle.std.specs.Prelude.{◌≡◌, ◌<◌, ℕ, Some, None, IsTrue}
use Rattle.wd_http.specs.Sent.{is_status}
use Rattle.remote_end.specs.declared.reply.Reply.{Reply}
use Rattle.remote_end.specs.declared.session.Session.{Session}
use Rattle.remote_end.specs.declared.step.Step.{Step as Outcome}
use Rattle.remote_end.specs.declared.step.Step.TheVariants.{Reply as Replied, Wait}
use Rattle.remote_end.specs.State.{After, Same, Leaves, Ends, Opens}
use Rattle.remote_end.specs.Plan.{Plan}
use Rattle.remote_end.specs.Moments.{next_after, stand, rest_of}
use Rattle.remote_end.specs.Waits.{settled, IsPlanOf, next_moment}
use Rattle.remote_end.specs.declared.setting.Setting.{Setting}

-- nothing waits in the session that a command leaves
abbrev pub LeavesIdle : After → Type 0
LeavesIdle Same = Unit {0}
LeavesIdle (Leaves s) = s.waiting ≡ None
LeavesIdle Ends = Unit {0}
LeavesIdle (Opens s) = s.waiting ≡ None

-- one of these plans has no next moment after that one, and ends in this reply and leaves this
pub record EndsBy (IsPlan : Plan → Type 0) (r : ℕ) (reply : Reply) (after : After) : Type 0 where
  pub plan : Plan
  pub is : IsPlan plan
  pub over : next_after plan.stages r ≡ None
  pub reply_is : reply ≡ plan.reply
  pub after_is : after ≡ plan.after
  pub idle : LeavesIdle after

-- the next moment of one of these plans after that one is `until`; the session stands as the plan says, and the rest
-- is what is left of the plan
pub record LeadsTo (IsPlan : Plan → Type 0) (r until : ℕ) (session : Session) (rest : Plan) : Type 0 where
  pub plan : Plan
  pub is : IsPlan plan
  pub next : next_after plan.stages r ≡ Some until
  pub stands : stand plan r ≡ Some (settled session)
  pub rest_is : rest ≡ rest_of plan r

-- the command waits in its session
pub record WaitsBy (setting : Setting) (IsPlan : Plan → Type 0) (r number until : ℕ) (session : Session) : Type 0 where
  pub number_is : number ≡ session.number
  pub next : next_moment session ≡ Some until
  pub later : r < until
  -- each plan that it then has is what is left of one of these
  pub leads : (rest : Plan) → IsPlanOf setting session rest → LeadsTo IsPlan r until session rest

-- a command with one of these plans is carried to r
abbrev pub ComesTo : Setting → (Plan → Type 0) → ℕ → Outcome → After → Type 0
ComesTo setting IsPlan r (Replied reply) after = EndsBy IsPlan r reply after
ComesTo setting IsPlan r (Wait number until) after = (session : Session) × (after ≡ Leaves session) × WaitsBy setting IsPlan r number until session

-- the status of the reply, where it ends
abbrev pub HasStatus : Outcome → Type 0
HasStatus (Replied reply) = IsTrue (is_status reply.status)
HasStatus (Wait number until) = Unit {0}
