use Rattle.std.proofs.Common.{◌≡◌, rules, List, IsTrue, length, ap, sym, subst, ◌∙◌}
use Rattle.std.specs.Str.{chars}
use Rattle.page_engine.specs.Links.{AreLinked}
use Rattle.page_engine.specs.Sites.{IsLawfulSite}
use Rattle.page_engine.specs.declared.page_def.PageDef.{PageDef}
use Rattle.page_file.proofs.FileFaults.{of_err}
use Rattle.page_file.proofs.SiteRead.{entry_first, pages_first}
use Rattle.page_file.proofs.SiteRules.{of_pages, of_entries, same_count, page_index, lawful_site}
use Rattle.page_file.specs.SiteFiles.{FileMap, AreGoodFiles, IsFirstFault, IsEntryFault, IsPagesFault}
use Rattle.page_file.specs.declared.listing.Entry.{Entry}
use Rattle.page_file.specs.declared.listing.Listing.{Listing}
use Rattle.page_file.specs.declared.site_fault.SiteFault.{SiteFault}
use Rattle.page_file.proofs.site_reader.read_site.Goals as goal

pub returns-in_err-read_pages-clause-fault : goal.returns-in_err-read_pages-clause-fault
returns-in_err-read_pages-clause-fault g c =
    let files : FileMap = g.F.Files.files c.args.files.now in
    let after : FileMap = g.F.Files.files c.read_listing_file.new.files in
    let total = c.read_listing_file.new.total in
    let listing : Listing = c.in_ok-listing.listing in
    let fault : SiteFault = c.in_err-read_pages.field-0.0 in
    of_err (λ (f : SiteFault). IsTrue g.F.Files.tells → IsFirstFault files (chars c.args.name.now) f) c.from_residual-in_err-read_pages.result fault (search rules)
    (λ t. entry_first files after c.in_ok-own.own (chars c.args.name.now) total listing c.in_ok-own.ensures.characters (c.read_listing_file.ensures.same t) (c.in_ok-listing.ensures.size t) (c.in_ok-listing.ensures.listing t) fault
    (subst (λ (es : List Entry). IsEntryFault after total es fault) c.as_slice-entries.ensures (c.in_err-read_pages.ensures.fault t)))

pub new-pages-requires : goal.new-pages-requires
new-pages-requires g c =
    let listing : Listing = c.in_ok-listing.listing in
    let pages : List PageDef = c.in_ok-read_pages.field-0 in
    let same : of_pages pages ≡ of_entries listing.entries = c.in_ok-read_pages.ensures.addresses ∙ ap of_entries c.as_slice-entries.ensures in
    page_index c.in_ok-listing.places pages listing.entries same c.in_ok-listing.ensures.index

pub check_pages-requires-clause-same : goal.check_pages-requires-clause-same
check_pages-requires-clause-same g c =
    let listing : Listing = c.in_ok-listing.listing in
    let pages : List PageDef = c.in_ok-read_pages.field-0 in
    let same : of_pages pages ≡ of_entries listing.entries = c.in_ok-read_pages.ensures.addresses ∙ ap of_entries c.as_slice-entries.ensures in
    ap (λ (ps : List PageDef). length ps) c.new-pages.ensures ∙ same_count pages listing.entries same ∙ ap (λ (es : List Entry). length es) (sym c.as_slice-entries.ensures)

pub returns-in_err-check_pages-clause-fault : goal.returns-in_err-check_pages-clause-fault
returns-in_err-check_pages-clause-fault g c =
    let files : FileMap = g.F.Files.files c.args.files.now in
    let after : FileMap = g.F.Files.files c.read_listing_file.new.files in
    let total = c.read_listing_file.new.total in
    let listing : Listing = c.in_ok-listing.listing in
    let pages : List PageDef = c.in_ok-read_pages.field-0 in
    let fault : SiteFault = c.in_err-check_pages.field-0.0 in
    let wrong : IsPagesFault listing.entries pages fault =
    subst (λ (es : List Entry). IsPagesFault es pages fault) c.as_slice-entries.ensures (subst (λ (ps : List PageDef). IsPagesFault c.as_slice-entries.result.now ps fault) c.new-pages.ensures c.in_err-check_pages.ensures.fault) in
    of_err (λ (f : SiteFault). IsTrue g.F.Files.tells → IsFirstFault files (chars c.args.name.now) f) c.from_residual-in_err-check_pages.result fault (search rules)
    (λ t. pages_first files after c.in_ok-own.own (chars c.args.name.now) total listing c.in_ok-own.ensures.characters (c.read_listing_file.ensures.same t) (c.in_ok-listing.ensures.size t) (c.in_ok-listing.ensures.listing t) pages fault
    (subst (λ (es : List Entry). AreGoodFiles after total es pages) c.as_slice-entries.ensures (c.in_ok-read_pages.ensures.pages t)) wrong)

pub returns-clause-lawful : goal.returns-clause-lawful
returns-clause-lawful g c =
    let listing : Listing = c.in_ok-listing.listing in
    let pages : List PageDef = c.in_ok-read_pages.field-0 in
    let same : of_pages pages ≡ of_entries listing.entries = c.in_ok-read_pages.ensures.addresses ∙ ap of_entries c.as_slice-entries.ensures in
    subst (λ (ps : List PageDef). IsLawfulSite (record { start = listing.start; pages = ps })) (sym (c.into_list.ensures ∙ c.new-pages.ensures))
    (lawful_site listing pages c.in_ok-listing.ensures.lawful same c.in_ok-read_pages.ensures.lawful (subst AreLinked c.new-pages.ensures c.in_ok-check_pages.ensures.linked))
