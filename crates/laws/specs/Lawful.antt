-- What is true of every state that a run of the machine reaches.
use Rattle.std.specs.Prelude.{◌≡◌, ◌≤◌, ◌<◌, ◌^◌, List, None, length}
use Rattle.std.specs.List.{All}
use Rattle.references.specs.Issued.{AreIssued}
use Rattle.references.specs.Series.{id_at}
use Rattle.references.specs.declared.kind.Kind.TheVariants.{Session as SessionKind, Window as WindowKind}
use Rattle.waits.specs.Moments.{last_moment}
use Rattle.remote_end.specs.declared.session.Session.{Session}
use Rattle.remote_end.specs.declared.setting.Setting.{Setting}
use Rattle.remote_end.specs.Machine.{Exchange, Runs}
use Rattle.remote_end.specs.Opening.{series}
use Rattle.remote_end.specs.State.{State, first_state, session_limit, number_limit, Rise}

-- An open session between two requests: its references were issued in order, each with an identifier of this run and
-- this session; its own and its window's are the first two of these; it has reached no moment after the last; and no
-- command waits in it.
pub record IsLawful (setting : Setting) (s : Session) : Type 0 where
  pub issued : AreIssued s.known
  pub run : s.known.ids.run ≡ setting.run
  pub session : s.known.ids.session ≡ s.number
  pub id : s.id ≡ id_at (series setting s.number 0) SessionKind 0
  pub window : s.window ≡ id_at (series setting s.number 1) WindowKind 1
  pub moment : s.at ≤ last_moment
  pub idle : s.waiting ≡ None

pub record AreLawful (setting : Setting) (state : State) : Type 0 where
  pub each : All (IsLawful setting) state.sessions
  -- their numbers rise, so no two sessions have one, and none has the number of a later one
  pub apart : Rise 1 state.sessions state.next
  pub few : length state.sessions ≤ session_limit
  pub numbers : state.next ≤ number_limit

-- Every state that a run reaches from the first is lawful, whatever its requests and readings are.
abbrev pub StatesAreLawful : Type 0
StatesAreLawful = (setting : Setting) (exchanges : List Exchange) (state : State) → setting.run < 2 ^ 48 → Runs setting first_state exchanges state → AreLawful setting state
