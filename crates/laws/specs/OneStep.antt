-- What is true of every step of the command machine.
use Rattle.std.specs.Prelude.{◌≡◌, List}
use Rattle.wd_http.specs.declared.request.Request.{Request}
use Rattle.remote_end.specs.declared.reply.Reply.{Reply}
use Rattle.remote_end.specs.declared.setting.Setting.{Setting}
use Rattle.remote_end.specs.Outside.{Call}
use Rattle.remote_end.specs.State.{State}
use Rattle.remote_end.specs.Step.{Steps}
use Rattle.remote_end.specs.Waits.{AreIdle}

-- From a state in which no command waits, a step leads to one reply and one state, by the request and the calls that
-- were made of the outside.
abbrev pub StepsToOne : Type 0
StepsToOne = (setting : Setting) (old one other : State) (request : Request) (calls : List Call) (reply answer : Reply) → AreIdle old.sessions
    → Steps setting old request calls reply one → Steps setting old request calls answer other → (answer ≡ reply) × (other ≡ one)
