-- The rows on navigation: Get Current URL and Get Title (Recommendation, section 9).
use Rattle.std.specs.Prelude.{List}
use Rattle.wd_json.specs.declared.value.Json.TheVariants.{Text}
use Rattle.remote_end.specs.declared.order.Order.{Order}
use Rattle.remote_end.specs.declared.session.Session.{Session}
use Rattle.remote_end.specs.declared.setting.Setting.{Setting}
use Rattle.remote_end.specs.Outside.{Call}
use Rattle.remote_end.specs.Plan.{Plan, at_once, AsksNothing}
use Rattle.remote_end.specs.Replies.{success}
use Rattle.remote_end.specs.State.{Leaves}
use Rattle.remote_end.specs.Titles.{title_of}

-- the serialised address of the document
abbrev pub url_plan : Session → Plan
url_plan s = at_once (success (Text s.page.address)) (Leaves s)

abbrev pub UrlRow : Setting → Order → Session → List Call → Plan → Type 0
UrlRow setting order s asked plan = AsksNothing (url_plan s) asked plan

abbrev pub title_plan : Session → Plan
title_plan s = at_once (success (Text (title_of s.page.rows))) (Leaves s)

abbrev pub TitleRow : Setting → Order → Session → List Call → Plan → Type 0
TitleRow setting order s asked plan = AsksNothing (title_plan s) asked plan
