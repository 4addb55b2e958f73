-- For private clauses: where the addresses of a page lead, beside a URL that may not be there.
use Rattle.std.specs.Prelude.{◌≡◌, ℕ, Bool, true, ◌&&◌, List, Option, Some, None, is_some}
use Rattle.std.specs.List.{list_all}
use Rattle.std.specs.Option.{option_and_then}
use Rattle.url.specs.Parts.{Parts}
use Rattle.page_engine.specs.Links.{target_beside, frame_target, frames, is_linked, leads_of}
use Rattle.page_engine.specs.declared.page_def.PageDef.{PageDef}
use Rattle.page_engine.specs.declared.target.Target.{Target}
use Rattle.page_engine.specs.declared.target.Target.TheVariants.{Blank}
use Rattle.page_engine.specs.declared.effect.Effect.{Effect}
use Rattle.page_engine.specs.declared.event.EventKind.{EventKind}
use Rattle.page_file.specs.Members.{each_of}

abbrev pub target_from : List PageDef → Option Parts → List ℕ → Option Target
target_from pages base text = option_and_then (target_beside pages text) base

abbrev pub leads_on : List PageDef → Option Parts → List ℕ → Bool
leads_on pages base text = is_some (target_from pages base text)

abbrev pub all_lead : List PageDef → Option Parts → List (List ℕ) → Bool
all_lead pages base texts = list_all (leads_on pages base) texts

-- all addresses that these effects ask for
abbrev pub effects_lead : List PageDef → Option Parts → List Effect → Bool
effects_lead pages base effects = list_all (λ e. all_lead pages base (leads_of e)) effects

-- where an iframe leads
abbrev pub frame_from : List PageDef → Option Parts → Option (List ℕ) → Option Target
frame_from pages base None = Some Blank
frame_from pages base (Some source) = target_from pages base source

-- all addresses that these handlers ask for
abbrev pub handlers_lead : List PageDef → Option Parts → List (EventKind × List Effect) → Bool
handlers_lead pages base on = list_all (λ handler. effects_lead pages base handler.1) on

-- all addresses that the timers and the scripts of the page ask for
abbrev pub rest_leads : List PageDef → Option Parts → PageDef → Bool
rest_leads pages base page =
    list_all (λ timer. effects_lead pages base timer.effects) page.timers
    && list_all (λ entry. effects_lead pages base entry.effects) page.book

-- all addresses of the page, those of its iframes apart
abbrev pub page_leads : List PageDef → Option Parts → PageDef → Bool
page_leads pages base page = list_all (λ d. handlers_lead pages base d.on) page.nodes && rest_leads pages base page

-- where the frames of the page lead, all of whose addresses lead somewhere
pub record AreTargetsOf (pages : List PageDef) (page : PageDef) (targets : List Target) : Type 0 where
  pub linked : is_linked pages page ≡ true
  pub frames : each_of (frame_target pages page.address) (frames page) ≡ Some targets
