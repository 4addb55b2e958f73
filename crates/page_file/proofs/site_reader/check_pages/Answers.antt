use Rattle.std.proofs.Common.{◌≡◌, rules, List, Some, sym, subst, ◌∙◌, refl}
use Rattle.std.specs.List.{position}
use Rattle.page_file.proofs.LinkedPages.{all_linked, are_linked, file_is}
use Rattle.page_file.specs.Weighing.{AreLoadsOf, is_heavy}
use Rattle.page_file.specs.declared.load.Load.{Load}
use Rattle.page_file.proofs.site_reader.check_pages.Goals as goal

pub returns-in-Some-clause-fault : goal.returns-in-Some-clause-fault
returns-in-Some-clause-fault c =
    let pages = c.args.pages.now in
    let loads : List Load = c.in-Ok.loads in
    let are : AreLoadsOf pages loads = search rules in
    let heavy : position (is_heavy pages) pages ≡ Some c.in-Some.place = sym (c.in_ok-place.ensures pages (subst (AreLoadsOf pages) (sym c.as_slice.ensures) are)) ∙ c.in-Some.is in
    (all_linked pages pages loads are, file_is c.args.entries.now pages (is_heavy pages) c.in-Some.place c.in_ok-file_of-in-Some.field-0 heavy c.in_ok-file_of-in-Some.ensures, refl, refl)

pub returns-clause-linked : goal.returns-clause-linked
returns-clause-linked c =
    let pages = c.args.pages.now in
    let loads : List Load = c.in-Ok.loads in
    let are : AreLoadsOf pages loads = search rules in
    are_linked pages loads are (sym c.in-None.is ∙ c.in_ok-place.ensures pages (subst (AreLoadsOf pages) (sym c.as_slice.ensures) are))
