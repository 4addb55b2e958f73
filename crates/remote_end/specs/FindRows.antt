-- The rows on finds: the six finds and Get Element Shadow Root (Recommendation, section 12; WebDriver Level 2 for
-- shadow roots).
use Rattle.std.specs.Prelude.{ℕ, List, Option, Some, None}
use Rattle.page_tree.specs.Places.{shadow_of}
use Rattle.references.specs.Handed.{handed}
use Rattle.references.specs.HandedAll.{named}
use Rattle.references.specs.declared.kind.Kind.{Kind}
use Rattle.references.specs.declared.kind.Kind.TheVariants.{Element, Shadow}
use Rattle.references.specs.declared.name.NodeName.{NodeName}
use Rattle.wd_errors.specs.declared.code.Code.TheVariants.{NoSuchShadowRoot}
use Rattle.remote_end.specs.declared.finds.Wanted.{Wanted}
use Rattle.remote_end.specs.declared.order.Order.{Order}
use Rattle.remote_end.specs.declared.session.Session.{Session}
use Rattle.remote_end.specs.declared.setting.Setting.{Setting}
use Rattle.remote_end.specs.Elements.{current_document}
use Rattle.remote_end.specs.Finds.{find_of, IsFind}
use Rattle.remote_end.specs.Handing.{with_reference}
use Rattle.remote_end.specs.Needs.{IsItem}
use Rattle.remote_end.specs.Outside.{Call}
use Rattle.remote_end.specs.Plan.{Plan, at_once, AsksNothing}
use Rattle.remote_end.specs.Replies.{failure}
use Rattle.remote_end.specs.State.{Leaves}

-- in the document
abbrev pub FindRow : Wanted → Setting → Order → Session → List Call → Plan → Type 0
FindRow wanted setting order s asked plan = IsFind setting (find_of wanted s None order.parameters) s asked plan

-- below the element or the shadow root that the path names
abbrev pub FindFromRow : Wanted → Kind → Setting → Order → Session → List Call → Plan → Type 0
FindFromRow wanted kind setting order s asked plan =
    (name : NodeName) × IsItem kind order s name × IsFind setting (find_of wanted s (Some name) order.parameters) s asked plan

-- the reference of a host's shadow root
abbrev pub root_plan : Session → Option ℕ → Plan
root_plan s None = at_once (failure NoSuchShadowRoot) (Leaves s)
root_plan s (Some root) = with_reference Shadow s (handed s.known Shadow (named current_document root))

abbrev pub shadow_plan : Session → NodeName → Plan
shadow_plan s name = root_plan s (shadow_of s.page.rows.shadows name.node)

abbrev pub ShadowRootRow : Setting → Order → Session → List Call → Plan → Type 0
ShadowRootRow setting order s asked plan = (name : NodeName) × IsItem Element order s name × AsksNothing (shadow_plan s name) asked plan
