-- What a lookup answers in every state that a run reaches.
use Rattle.std.specs.Prelude.{◌≡◌, ◌<◌, ◌^◌, ℕ, List, true}
use Rattle.std.specs.List.{All}
use Rattle.references.specs.Handed.{is_node_kind}
use Rattle.references.specs.declared.kind.Kind.{Kind}
use Rattle.remote_end.specs.declared.session.Session.{Session}
use Rattle.remote_end.specs.declared.setting.Setting.{Setting}
use Rattle.remote_end.specs.Laws.{LooksUp}
use Rattle.remote_end.specs.Machine.{Exchange, Runs}
use Rattle.remote_end.specs.State.{State, first_state}

-- each text is looked up, as an element's and as a shadow root's, by what the session handed out
abbrev pub LooksUpAll : Session → Type 0
LooksUpAll s = (kind : Kind) (text : List ℕ) → is_node_kind kind ≡ true → LooksUp kind s text

abbrev pub LookupsAreExactInRuns : Type 0
LookupsAreExactInRuns = (setting : Setting) (exchanges : List Exchange) (state : State) → setting.run < 2 ^ 48 → Runs setting first_state exchanges state → All LooksUpAll state.sessions
