use Rattle.std.proofs.Common.{◌≡◌, ◌+◌, ℕ, List, IsTrue, All, length, take, map, ap, sym, subst, ◌∙◌, rules, arith}
use Rattle.std.proofs.lemmas.List.{length_push}
use Rattle.page_engine.specs.Pages.{IsLawfulPage}
use Rattle.page_engine.specs.declared.page_def.PageDef.{PageDef}
use Rattle.page_file.proofs.FileFaults.{of_err, cause_since}
use Rattle.page_file.proofs.PageFiles.{good_more, sizes_more, entry_fault, addresses_more, lawful_more}
use Rattle.page_file.specs.SiteFiles.{FileMap, size_at, sizes, IsPageFile, AreGoodFiles, page_fault, IsFileFault, IsEntryFault, IsReadCause}
use Rattle.page_file.specs.declared.listing.Entry.{Entry}
use Rattle.page_file.specs.declared.site_fault.SiteFault.{SiteFault}
use Rattle.page_file.specs.declared.site_fault.SiteFault.TheVariants.{Memory}
use Rattle.page_file.proofs.site_reader.read_pages.Goals as goal

pub returns-in_err-page-clause-fault : goal.returns-in_err-page-clause-fault
returns-in_err-page-clause-fault g c =
    let old = c.loop-entry in
    let files : FileMap = g.F.Files.files c.args.files.now in
    let entry : Entry = c.entry-item.result in
    let fault : SiteFault = c.in_err-page.field-0.0 in
    of_err (λ (f : SiteFault). IsTrue g.F.Files.tells → IsEntryFault files c.args.total.now c.args.entries.now f) c.from_residual.result fault (search rules)
    (λ t. entry_fault files c.args.total.now c.args.entries.now old.entry-index entry c.loop-entry-test.true c.entry-item.is old.pages.items old.total fault
    (old.invariant.pages t) (old.invariant.size t) (subst (λ (fs : FileMap). IsFileFault fs entry.file old.total (page_fault entry) fault) (old.invariant.same t) (c.in_err-page.ensures.fault t)))

pub returns-in_err-page-clause-cause : goal.returns-in_err-page-clause-cause
returns-in_err-page-clause-cause g c =
    let old = c.loop-entry in
    let fault : SiteFault = c.in_err-page.field-0.0 in
    of_err (IsReadCause (g.F.Files.faults c.args.files.now) (g.F.Files.faults c.read_page_file.new.files)) c.from_residual.result fault (search rules)
    (cause_since (g.F.Files.faults c.args.files.now) (g.F.Files.faults old.files) (g.F.Files.faults c.read_page_file.new.files) fault old.invariant.kept c.in_err-page.ensures.cause)

pub loop-entry-preserved : goal.loop-entry-preserved
loop-entry-preserved g c =
    let old = c.loop-entry in
    let files : FileMap = g.F.Files.files c.args.files.now in
    let entries : List Entry = c.args.entries.now in
    let i : ℕ = old.entry-index in
    let entry : Entry = c.entry-item.result in
    let page : PageDef = c.in_ok-page.page in
    let within = c.loop-entry-test.true in
    let here = c.entry-item.is in
    record {
      same = λ t. c.read_page_file.ensures.same t ∙ old.invariant.same t;
      pages = λ t.
          let file : IsPageFile files entry page = subst (λ (fs : FileMap). IsPageFile fs entry page) (old.invariant.same t) (c.in_ok-page.ensures.page t) in
          let more : c.read_page_file.new.total ≡ old.total + size_at files entry.file = subst (λ (fs : FileMap). c.read_page_file.new.total ≡ old.total + size_at fs entry.file) (old.invariant.same t) (c.in_ok-page.ensures.size t) in
          subst (AreGoodFiles files c.args.total.now (take (i + 1) entries)) (sym c.in_ok-push.ensures.items)
          (good_more files c.args.total.now entries i entry within here old.pages.items page old.total c.read_page_file.new.total (old.invariant.pages t) (old.invariant.size t) file more c.in_ok-page.ensures.within);
      size = λ t.
          let more : c.read_page_file.new.total ≡ old.total + size_at files entry.file = subst (λ (fs : FileMap). c.read_page_file.new.total ≡ old.total + size_at fs entry.file) (old.invariant.same t) (c.in_ok-page.ensures.size t) in
          let all : sizes files (take (i + 1) entries) ≡ sizes files (take i entries) + size_at files entry.file = sizes_more files c.args.total.now entries i entry within here in
          omega (arith, more, all, old.invariant.size t);
      within = c.in_ok-page.ensures.within;
      lawful = subst (All IsLawfulPage) (sym c.in_ok-push.ensures.items) (lawful_more old.pages.items page old.invariant.lawful c.in_ok-page.ensures.lawful);
      addresses = ap (map (λ (p : PageDef). p.address)) c.in_ok-push.ensures.items ∙ addresses_more files c.args.total.now entries i entry within here old.pages.items page old.invariant.addresses c.in_ok-page.ensures.address;
      made =
          let items = ap (λ (ps : List PageDef). length ps) c.in_ok-push.ensures.items ∙ length_push old.pages.items page in
          omega (arith, c.in_ok-page.ensures.made, items, old.invariant.made);
      kept = c.in_ok-page.ensures.kept ∙ old.invariant.kept;
    }

pub returns-in_err-push-clause-fault : goal.returns-in_err-push-clause-fault
returns-in_err-push-clause-fault g c =
    let old = c.loop-entry in
    let files : FileMap = g.F.Files.files c.args.files.now in
    let entry : Entry = c.entry-item.result in
    of_err (λ (f : SiteFault). IsTrue g.F.Files.tells → IsEntryFault files c.args.total.now c.args.entries.now f) c.from_residual-in_err-push.result Memory (search rules)
    (λ t. entry_fault files c.args.total.now c.args.entries.now old.entry-index entry c.loop-entry-test.true c.entry-item.is old.pages.items old.total Memory
    (old.invariant.pages t) (old.invariant.size t) tt)
