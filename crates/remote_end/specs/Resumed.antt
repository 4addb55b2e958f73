-- What is true of a command that waits, however it is resumed.
use Rattle.std.specs.Prelude.{◌≡◌, ℕ, Some, max, List, [], ◌∷◌}
use Rattle.waits.specs.Reaching.{Reaches, IsLater}
use Rattle.remote_end.specs.declared.session.Session.{Session}
use Rattle.remote_end.specs.Plan.{Plan}
use Rattle.remote_end.specs.Waits.{IsPlanOf, next_moment, StepsAt, IsKept}
use Rattle.remote_end.specs.declared.setting.Setting.{Setting}

-- one resume: all next moments that are at most the reading are handled, in order
pub record IsResumed (setting : Setting) (old : Session) (reading : ℕ) (new : Session) : Type 0 where
  pub reaches : Reaches next_moment (StepsAt setting) reading old new
  pub later : IsLater (next_moment new) reading

-- resumes with these readings, early or late, one after another
pub data AreResumed (setting : Setting) : Session → List ℕ → Session → Type 0 where
  NoMore : (s : Session) → AreResumed setting s [] s
  Again : (s t u : Session) (r : ℕ) (readings : List ℕ) → IsResumed setting s r t → AreResumed setting t readings u → AreResumed setting s (r ∷ readings) u

abbrev pub greatest : ℕ → List ℕ → ℕ
greatest r [] = r
greatest r (reading ∷ readings) = greatest (max r reading) readings

-- A list of resumes is one resume with the greatest of its readings.
abbrev pub ResumesAreOne : Type 0
ResumesAreOne = (setting : Setting) (s t u : Session) (r : ℕ) (readings : List ℕ) → IsResumed setting s r t → AreResumed setting t readings u → IsResumed setting s (greatest r readings) u

-- A command that waits has one plan: its reply, what it leaves, its next moments, and how its session stands at each.
abbrev pub PlansAreOne : Type 0
PlansAreOne = (setting : Setting) (s : Session) (one other : Plan) → IsPlanOf setting s one → IsPlanOf setting s other → one ≡ other

-- And it has one: in each session that is kept between two calls.
abbrev pub PlansAreThere : Type 0
PlansAreThere = (setting : Setting) (s : Session) → IsKept s → (until : ℕ) → next_moment s ≡ Some until → (plan : Plan) × IsPlanOf setting s plan
