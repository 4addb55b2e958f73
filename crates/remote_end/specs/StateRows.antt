-- The rows on an element's state: Get Element Tag Name and Get Element Text (Recommendation, section 13).
use Rattle.std.specs.Prelude.{ℕ, List, []}
use Rattle.std.specs.Option.{unwrap_or}
use Rattle.interaction.specs.RenderedText.{rendered_text}
use Rattle.page_tree.specs.Rows.{Rows, tag_of}
use Rattle.references.specs.declared.kind.Kind.TheVariants.{Element}
use Rattle.references.specs.declared.name.NodeName.{NodeName}
use Rattle.wd_json.specs.declared.value.Json.TheVariants.{Text}
use Rattle.remote_end.specs.declared.order.Order.{Order}
use Rattle.remote_end.specs.declared.session.Session.{Session}
use Rattle.remote_end.specs.declared.setting.Setting.{Setting}
use Rattle.remote_end.specs.Needs.{IsItem}
use Rattle.remote_end.specs.Outside.{Call}
use Rattle.remote_end.specs.Plan.{Plan, at_once, AsksNothing}
use Rattle.remote_end.specs.Replies.{success}
use Rattle.remote_end.specs.State.{Leaves}

-- the characters of a tag, as it was given
abbrev pub tag_at : Rows → ℕ → List ℕ
tag_at rows node = unwrap_or (tag_of rows node) []

abbrev pub tag_name_plan : Session → NodeName → Plan
tag_name_plan s name = at_once (success (Text (tag_at s.page.rows name.node))) (Leaves s)

abbrev pub TagNameRow : Setting → Order → Session → List Call → Plan → Type 0
TagNameRow setting order s asked plan = (name : NodeName) × IsItem Element order s name × AsksNothing (tag_name_plan s name) asked plan

abbrev pub text_plan : Session → NodeName → Plan
text_plan s name = at_once (success (Text (rendered_text s.page.rows name.node))) (Leaves s)

abbrev pub TextRow : Setting → Order → Session → List Call → Plan → Type 0
TextRow setting order s asked plan = (name : NodeName) × IsItem Element order s name × AsksNothing (text_plan s name) asked plan
