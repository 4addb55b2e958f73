use Rattle.std.proofs.Common.{◌≡◌, rules, ◌+◌, ◌<◌, List, Some, false, length, get_or, ap, sym, subst, ◌∙◌}
use Rattle.page_engine.specs.declared.page_def.PageDef.{PageDef}
use Rattle.page_engine.specs.Links.{is_linked}
use Rattle.page_file.specs.Weighing.{IsLoadOf}
use Rattle.page_file.specs.declared.load.Load.{Load}
use Rattle.page_file.proofs.LoadSteps.{AreLoadsSoFar, loads_more, first_unlinked}
use Rattle.page_file.proofs.links.loads.Goals as goal

pub returns-in_default : goal.returns-in_default
returns-in_default c =
    let pages = c.args.pages.now in
    let old = c.loop-page in
    let i = old.page-index in
    let page : PageDef = c.page-item.result in
    let within : i < length pages = subst (λ (ps : List PageDef). i < length ps) c.as_slice-page-items.ensures c.loop-page-test.true in
    let here : page ≡ get_or pages i page = subst (λ (ps : List PageDef). page ≡ get_or ps i page) c.as_slice-page-items.ensures c.page-item.is in
    let lost : is_linked pages page ≡ false = search rules in
    let count : length old.loads.items ≡ c.len-place.result = search rules in
    first_unlinked pages i page within here old.loads.items old.invariant lost ∙ ap (λ n. Some n) count

pub loop-page-preserved : goal.loop-page-preserved
loop-page-preserved c =
    let pages = c.args.pages.now in
    let old = c.loop-page in
    let i = old.page-index in
    let page : PageDef = c.page-item.result in
    let load : Load = c.in-Some.load in
    let within : i < length pages = subst (λ (ps : List PageDef). i < length ps) c.as_slice-page-items.ensures c.loop-page-test.true in
    let here : page ≡ get_or pages i page = subst (λ (ps : List PageDef). page ≡ get_or ps i page) c.as_slice-page-items.ensures c.page-item.is in
    let is : IsLoadOf pages page load = search rules in
    subst (AreLoadsSoFar pages (i + 1)) (sym c.in_ok-push.ensures.items) (loads_more pages i page within here old.loads.items load old.invariant is)
