-- The rows on windows: Get Window Handle (Recommendation, section 10).
use Rattle.std.specs.Prelude.{List}
use Rattle.references.specs.Identifier.{text_of}
use Rattle.wd_json.specs.declared.value.Json.TheVariants.{Text}
use Rattle.remote_end.specs.declared.order.Order.{Order}
use Rattle.remote_end.specs.declared.session.Session.{Session}
use Rattle.remote_end.specs.declared.setting.Setting.{Setting}
use Rattle.remote_end.specs.Outside.{Call}
use Rattle.remote_end.specs.Plan.{Plan, at_once, AsksNothing}
use Rattle.remote_end.specs.Replies.{success}
use Rattle.remote_end.specs.State.{Leaves}

-- the text of the window's identifier
abbrev pub handle_plan : Session → Plan
handle_plan s = at_once (success (Text (text_of s.window))) (Leaves s)

abbrev pub WindowHandleRow : Setting → Order → Session → List Call → Plan → Type 0
WindowHandleRow setting order s asked plan = AsksNothing (handle_plan s) asked plan
