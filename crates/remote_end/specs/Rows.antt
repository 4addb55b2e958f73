-- The table of commands: of each command that is built, what it needs of its session and what it does.
use Rattle.std.specs.Prelude.{ℕ, List, [], ◌∷◌, Bool, true, false, Option, Some, None}
use Rattle.endpoints.specs.declared.command.Command.{Command}
use Rattle.endpoints.specs.declared.command.Command.TheVariants.{Status, NewSession, DeleteSession, GetTimeouts, SetTimeouts, GetCurrentUrl, GetTitle, GetWindowHandle, FindElement, FindElements, FindElementFromElement, FindElementsFromElement, FindElementFromShadowRoot, FindElementsFromShadowRoot, GetElementShadowRoot, GetElementTagName, GetElementText}
use Rattle.references.specs.declared.kind.Kind.TheVariants.{Element, Shadow}
use Rattle.wd_errors.specs.declared.code.Code.TheVariants.{UnsupportedOperation}
use Rattle.wd_json.specs.declared.value.Json.{Json}
use Rattle.remote_end.specs.declared.finds.Wanted.TheVariants.{First, All}
use Rattle.remote_end.specs.declared.order.Order.{Order}
use Rattle.remote_end.specs.declared.reply.Reply.{Reply}
use Rattle.remote_end.specs.declared.session.Session.{Session}
use Rattle.remote_end.specs.declared.setting.Setting.{Setting}
use Rattle.remote_end.specs.FindRows.{FindRow, FindFromRow, ShadowRootRow}
use Rattle.remote_end.specs.NavigationRows.{UrlRow, TitleRow}
use Rattle.remote_end.specs.Needs.{Need, OpenWindow, OpenContext, NoPrompt, Item, Judges, Checks}
use Rattle.remote_end.specs.Outside.{Call}
use Rattle.remote_end.specs.Plan.{Plan, at_once, AsksNothing}
use Rattle.remote_end.specs.SessionRows.{NewSessionRow, StatusRow, DeleteRow, TimeoutsRow, SetTimeoutsRow}
use Rattle.remote_end.specs.Replies.{failure}
use Rattle.remote_end.specs.State.{State, Same, Leaves}
use Rattle.remote_end.specs.StateRows.{TagNameRow, TextRow}
use Rattle.remote_end.specs.WindowRows.{WindowHandleRow}

pub data Row : Type 1 where
  -- of no session: what it does with a reading
  Alone : (Setting → State → Json → ℕ → List Call → Plan → Type 0) → Row
  -- of a session that stands at the command's start: what it needs, and what it does where nothing refuses
  Own : List Need → (Setting → Order → Session → List Call → Plan → Type 0) → Row
  -- this remote end doesn't carry it out
  Unbuilt : Row

unfoldable pub row_of : Command → Row
row_of NewSession = Alone NewSessionRow
row_of Status = Alone StatusRow
row_of DeleteSession = Own [] DeleteRow
row_of GetTimeouts = Own [] TimeoutsRow
row_of SetTimeouts = Own [] SetTimeoutsRow
row_of GetCurrentUrl = Own (OpenWindow ∷ NoPrompt ∷ []) UrlRow
row_of GetTitle = Own (OpenWindow ∷ NoPrompt ∷ []) TitleRow
row_of GetWindowHandle = Own (OpenWindow ∷ []) WindowHandleRow
row_of FindElement = Own (OpenContext ∷ NoPrompt ∷ []) (FindRow First)
row_of FindElements = Own (OpenContext ∷ NoPrompt ∷ []) (FindRow All)
row_of FindElementFromElement = Own (OpenContext ∷ NoPrompt ∷ Item Element ∷ []) (FindFromRow First Element)
row_of FindElementsFromElement = Own (OpenContext ∷ NoPrompt ∷ Item Element ∷ []) (FindFromRow All Element)
row_of FindElementFromShadowRoot = Own (OpenContext ∷ NoPrompt ∷ Item Shadow ∷ []) (FindFromRow First Shadow)
row_of FindElementsFromShadowRoot = Own (OpenContext ∷ NoPrompt ∷ Item Shadow ∷ []) (FindFromRow All Shadow)
row_of GetElementShadowRoot = Own (OpenContext ∷ NoPrompt ∷ Item Element ∷ []) ShadowRootRow
row_of GetElementTagName = Own (OpenContext ∷ NoPrompt ∷ Item Element ∷ []) TagNameRow
row_of GetElementText = Own (OpenContext ∷ NoPrompt ∷ Item Element ∷ []) TextRow
row_of command = Unbuilt

-- whether this remote end carries a command out
abbrev pub is_row : Row → Bool
is_row (Alone does) = true
is_row (Own needs does) = true
is_row Unbuilt = false

unfoldable pub is_built : Command → Bool
is_built command = is_row (row_of command)

-- ---- what a command does

-- what follows the checks: the reply of the one that refused, or the row
abbrev pub Follows : (Session → List Call → Plan → Type 0) → Session → Option Reply → List Call → Plan → Type 0
Follows does s (Some reply) asked plan = AsksNothing (at_once reply (Leaves s)) asked plan
Follows does s None asked plan = does s asked plan

-- Of a session: its needs are judged in order, and what follows is done in the session as they leave it.
pub record IsDone (needs : List Need) (does : Session → List Call → Plan → Type 0) (order : Order) (s : Session) (asked : List Call) (plan : Plan) : Type 0 where
  pub checked : Session
  pub refusal : Option Reply
  pub checks : Checks (Judges order) needs s checked refusal
  pub follows : Follows does checked refusal asked plan

-- no other row is one of a session
abbrev pub IsOwn : Row → Setting → Order → Session → List Call → Plan → Type 0
IsOwn (Own needs does) setting order s asked plan = IsDone needs (does setting order) order s asked plan
IsOwn (Alone does) setting order s asked plan = AsksNothing (at_once (failure UnsupportedOperation) (Leaves s)) asked plan
IsOwn Unbuilt setting order s asked plan = AsksNothing (at_once (failure UnsupportedOperation) (Leaves s)) asked plan

-- and none of them is one of none
abbrev pub IsAlone : Row → Setting → State → Json → ℕ → List Call → Plan → Type 0
IsAlone (Alone does) setting state parameters reading asked plan = does setting state parameters reading asked plan
IsAlone (Own needs does) setting state parameters reading asked plan = AsksNothing (at_once (failure UnsupportedOperation) Same) asked plan
IsAlone Unbuilt setting state parameters reading asked plan = AsksNothing (at_once (failure UnsupportedOperation) Same) asked plan
