-- What a session handed out stood in an earlier reply.
use Rattle.std.specs.Prelude.{◌≡◌, List}
use Rattle.std.specs.List.{All, Contains}
use Rattle.references.specs.Identifier.{Identifier}
use Rattle.references.specs.Series.{id_at}
use Rattle.references.specs.declared.kind.Kind.{Kind}
use Rattle.references.specs.declared.kind.Kind.TheVariants.{Element}
use Rattle.references.specs.declared.name.Entry.{Entry}
use Rattle.wd_json.specs.declared.value.Json.TheVariants.{List as ListValue}
use Rattle.remote_end.specs.declared.reply.Reply.{Reply}
use Rattle.remote_end.specs.declared.session.Session.{Session}
use Rattle.remote_end.specs.declared.setting.Setting.{Setting}
use Rattle.remote_end.specs.Handing.{node_value}
use Rattle.remote_end.specs.Machine.{Exchange, Runs}
use Rattle.remote_end.specs.Replies.{success}
use Rattle.remote_end.specs.State.{State, first_state}
use Rattle.remote_end.specs.Values.{reference_values}

-- a reply has the reference of a node of that kind with this identifier: alone, or in a list
pub data Holds (reply : Reply) (kind : Kind) (id : Identifier) : Type 0 where
  Alone : reply ≡ success (node_value kind id) → Holds reply kind id
  Among : (ids : List Identifier) → kind ≡ Element → Contains ids id → reply ≡ success (ListValue (reference_values ids)) → Holds reply kind id

-- each reference that the session handed out stands in a reply of these exchanges
abbrev pub IsReplied : List Exchange → Session → Type 0
IsReplied exchanges s =
    (entry : Entry) → Contains s.known.entries entry → (e : Exchange) × Contains exchanges e × Holds e.reply entry.kind (id_at s.known.ids entry.kind entry.serial)

-- So it is of each session that is open after a run.
abbrev pub AreReplied : Type 0
AreReplied = (setting : Setting) (exchanges : List Exchange) (state : State) → Runs setting first_state exchanges state → All (IsReplied exchanges) state.sessions
