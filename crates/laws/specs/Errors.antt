-- What a command that ends in an error leaves.
use Rattle.std.specs.Prelude.{◌≡◌, ◌≢◌, ◌≤◌, ◌⊎◌, ℕ, List, Some, slice_get, slice_set}
use Rattle.wd_http.specs.declared.request.Request.{Request}
use Rattle.remote_end.specs.declared.reply.Reply.{Reply}
use Rattle.remote_end.specs.declared.session.Session.{Session}
use Rattle.remote_end.specs.declared.setting.Setting.{Setting}
use Rattle.remote_end.specs.Advance.{Advanced}
use Rattle.remote_end.specs.Outside.{Call}
use Rattle.remote_end.specs.State.{State}
use Rattle.remote_end.specs.Step.{Steps}
use Rattle.laws.specs.Lawful.{AreLawful}

-- one session has advanced to a moment; nothing else changed
pub record HasAdvanced (setting : Setting) (old new : State) : Type 0 where
  pub place : ℕ
  pub session : Session
  pub here : slice_get old.sessions place ≡ Some session
  pub moment : ℕ
  pub onwards : session.at ≤ moment
  pub later : Session
  pub advanced : Advanced setting session moment later
  pub new_is : new ≡ record old { sessions = slice_set old.sessions place later }

-- In a lawful state an error ends no session and opens none, hands nothing out, and changes nothing of its own session but that it has
-- advanced: so it is of the commands that are carried out today.
abbrev pub ErrorsKeep : Type 0
ErrorsKeep = (setting : Setting) (old new : State) (request : Request) (calls : List Call) (reply : Reply) → AreLawful setting old → Steps setting old request calls reply new → reply.status ≢ 200
    → (new ≡ old) ⊎ HasAdvanced setting old new
