-- Files that have a first fault spell no site.
use Rattle.std.proofs.Common.{◌≡◌, ℕ, zero, suc, ◌+◌, ◌≤◌, Bool, true, false, List, [], ◌∷◌, Option, Some, None, Ok, length, take, drop, refl, sym, ap, subst, ◌∙◌, arith}
use Rattle.std.specs.Prelude.{not, ◌&&◌, ◌||◌, slice_get}
use Rattle.std.specs.List.{list_all, list_any, position, sum_by}
use Rattle.std.specs.Option.{option_map, option_and_then}
use Rattle.std.specs.Result.{result_err}
use Rattle.std.proofs.lemmas.List.Sums.{sum-map, sum_by-take-drop}
use Rattle.std.proofs.lemmas.Option.{slice_get_within, get_or_from_slice_get}
use Rattle.page_engine.specs.Links.{is_linked, is_light}
use Rattle.page_engine.specs.declared.page_def.PageDef.{PageDef}
use Rattle.page_engine.specs.declared.site.Site.{Site}
use Rattle.page_file.proofs.Tests.{some_is}
use Rattle.page_file.proofs.Rows.{ok_is}
use Rattle.page_file.proofs.EntrySteps.{no_place}
use Rattle.page_file.proofs.FileFaults.{not_long, size_is}
use Rattle.page_file.proofs.PageFiles.{sizes_more}
use Rattle.page_file.specs.Listings.{listing_of}
use Rattle.page_file.specs.PageSpelled.{page_of}
use Rattle.page_file.specs.Rows.{Fault}
use Rattle.page_file.specs.SiteFiles.{FileMap, files_limit, size_at, sizes, is_too_long, IsTextOf, IsFileOf, IsPageFile, ArePageFiles, IsSiteOf, IsWrong, no_value, bad_value, listing_fault, page_fault, IsFileFault, IsOfFiles, first_file, IsPagesFault, IsFirstFault, of_site, of_entry, of_pages}
use Rattle.page_file.specs.declared.listing.Entry.{Entry}
use Rattle.page_file.specs.declared.listing.Listing.{Listing}
use Rattle.page_file.specs.declared.site_fault.SiteFault.{SiteFault}
use Rattle.page_file.specs.declared.site_fault.SiteFault.TheVariants.{Read, TooLong, Bad, Links, Memory}
use Rattle.page_file.specs.declared.why.Why.{Why}
use Rattle.wd_json.proofs.Alone.{same_data}
use Rattle.wd_json.specs.Json.{data_of}
use Rattle.wd_json.specs.declared.value.Json.{Json}

-- ---- bytes are the text of one value, and it spells one listing or page

one_value : (bytes : List ℕ) (v w : Json) → IsTextOf bytes v → IsTextOf bytes w → v ≡ w
one_value bytes v w is js = same_data v w (some_is (data_of v) (data_of w) (sym is.0.1 ∙ js.0.1))

one_file : (files : FileMap) (name : List ℕ) (v w : Json) → IsFileOf files name v → IsFileOf files name w → v ≡ w
one_file files name v w is js =
    let bytes : is.bytes ≡ js.bytes = some_is is.bytes js.bytes (sym is.here ∙ js.here) in
    one_value js.bytes v w (subst (λ (bs : List ℕ). IsTextOf bs v) bytes is.text) js.text

one_page_file : (files : FileMap) (entry : Entry) (p q : PageDef) → IsPageFile files entry p → IsPageFile files entry q → p ≡ q
one_page_file files entry p q is js =
    let same : is.value ≡ js.value = one_file files entry.file is.value js.value is.file js.file in
    ok_is p q (sym is.spells ∙ ap (page_of entry.address) same ∙ js.spells)

same_pages : (files : FileMap) (entries : List Entry) (ps qs : List PageDef) → ArePageFiles files entries ps → ArePageFiles files entries qs → ps ≡ qs
same_pages files [] [] [] are brs = refl
same_pages files [] [] (q ∷ qs) are brs = absurd brs
same_pages files [] (p ∷ ps) qs are brs = absurd are
same_pages files (e ∷ es) [] qs are brs = absurd are
same_pages files (e ∷ es) (p ∷ ps) [] are brs = absurd brs
same_pages files (e ∷ es) (p ∷ ps) (q ∷ qs) are brs =
    ap (λ (x : PageDef). x ∷ ps) (one_page_file files e p q are.0 brs.0) ∙ ap (λ (xs : List PageDef). q ∷ xs) (same_pages files es ps qs are.1 brs.1)

-- ---- a good file has no fault

none_some : (fault : Fault) → None ≡ Some fault → ⊥
none_some fault e = cc

module _ (files : FileMap) (name : List ℕ) (before : ℕ) (wrong : Json → Option Fault) (v : Json) (file : IsFileOf files name v) (few : before + size_at files name ≤ files_limit) (none : wrong v ≡ None) where
  fits : is_too_long before (length file.bytes) ≡ false
  fits = not_long before (length file.bytes) file.fits (subst (λ (n : ℕ). before + n ≤ files_limit) (size_is files name file.bytes file.here) few)

  not_wrong : (row : ℕ) (why : Why) → IsWrong file.bytes wrong row why → ⊥
  not_wrong row why (no_value absent is by) = absent v file.text
  not_wrong row why (bad_value w text fault) =
      let same : w ≡ v = one_value file.bytes w v text file.text in
      none_some (row, why) (sym none ∙ ap wrong (sym same) ∙ fault)

  no_file_fault : (fault : SiteFault) → IsOfFiles fault → IsFileFault files name before wrong fault → ⊥
  no_file_fault (Read n) of is = of
  no_file_fault (TooLong n) of is =
      let same : is.1.bytes ≡ file.bytes = some_is is.1.bytes file.bytes (sym is.1.here ∙ file.here) in
      let f : true ≡ false = sym is.1.long ∙ ap (λ (bs : List ℕ). is_too_long before (length bs)) same ∙ fits in cc
  no_file_fault (Bad n row why) of is =
      let same : is.1.bytes ≡ file.bytes = some_is is.1.bytes file.bytes (sym is.1.here ∙ file.here) in
      not_wrong row why (subst (λ (bs : List ℕ). IsWrong bs wrong row why) same is.1.is_wrong)
  no_file_fault (Links n) of is = is
  no_file_fault Memory of is = of

-- ---- the file of an entry among good ones

page_file_at : (files : FileMap) (entries : List Entry) (pages : List PageDef) (place : ℕ) (entry : Entry) → ArePageFiles files entries pages → slice_get entries place ≡ Some entry → (page : PageDef) × IsPageFile files entry page
page_file_at files [] pages place entry are here = cc
page_file_at files (e ∷ es) [] place entry are here = absurd are
page_file_at files (e ∷ es) (p ∷ ps) zero entry are here = (p, subst (λ (x : Entry). IsPageFile files x p) (some_is e entry here) are.0)
page_file_at files (e ∷ es) (p ∷ ps) (suc place) entry are here = page_file_at files es ps place entry are.1 here

sizes_up_to : (files : FileMap) (entries : List Entry) (n : ℕ) → sizes files (take n entries) ≤ sizes files entries
sizes_up_to files entries n =
    let size = λ (e : Entry). size_at files e.file in
    let front : sizes files (take n entries) ≡ sum_by size (take n entries) = sum-map size (take n entries) in
    let all : sizes files entries ≡ sum_by size entries = sum-map size entries in
    let parts : sum_by size (take n entries) + sum_by size (drop n entries) ≡ sum_by size entries = sum_by-take-drop size entries n in
    omega (arith, front, all, parts)

entry_fits : (files : FileMap) (before : ℕ) (entries : List Entry) (place : ℕ) (entry : Entry) → slice_get entries place ≡ Some entry → before + sizes files entries ≤ files_limit
    → before + sizes files (take place entries) + size_at files entry.file ≤ files_limit
entry_fits files before entries place entry here few =
    let more : sizes files (take (place + 1) entries) ≡ sizes files (take place entries) + size_at files entry.file =
    sizes_more files before entries place entry (slice_get_within entries place entry here) (sym (get_or_from_slice_get entries place entry entry here)) in
    let up : sizes files (take (place + 1) entries) ≤ sizes files entries = sizes_up_to files entries (place + 1) in
    omega (arith, more, up, few)

-- ---- where all pages pass, none is the first that doesn't

none_is : {X : Type 0} (p : X → Bool) (xs : List X) → list_all p xs ≡ true → list_any (λ x. not (p x)) xs ≡ false
none_is p [] all = refl
none_is p (x ∷ xs) all = at (p x) refl (none_is p xs) all
  where
    at : (b : Bool) → p x ≡ b → (list_all p xs ≡ true → list_any (λ y. not (p y)) xs ≡ false) → (b && list_all p xs) ≡ true → list_any (λ y. not (p y)) (x ∷ xs) ≡ false
    at true is rest h = ap (λ (c : Bool). not c || list_any (λ y. not (p y)) xs) is ∙ rest h
    at false is rest h = cc

no_first : (entries : List Entry) (pages : List PageDef) (p : PageDef → Bool) (n : List ℕ) → list_all p pages ≡ true → first_file entries pages (λ page. not (p page)) ≡ Some n → ⊥
no_first entries pages p n all first =
    let none : position (λ (page : PageDef). not (p page)) pages ≡ None = no_place (λ (page : PageDef). not (p page)) pages (none_is p pages all) in
    let f : None ≡ Some n = sym (ap (λ (o : Option ℕ). option_map (λ (entry : Entry). entry.file) (option_and_then (slice_get entries) o)) none) ∙ first in cc

no_pages_fault : (entries : List Entry) (pages : List PageDef) (fault : SiteFault) → IsOfFiles fault → list_all (is_linked pages) pages ≡ true → list_all (is_light pages) pages ≡ true → IsPagesFault entries pages fault → ⊥
no_pages_fault entries pages (Read n) of linked light is = is
no_pages_fault entries pages (TooLong n) of linked light is = is
no_pages_fault entries pages (Bad n row why) of linked light is = no_first entries pages (is_light pages) n light is.1
no_pages_fault entries pages (Links n) of linked light is = no_first entries pages (is_linked pages) n linked is
no_pages_fault entries pages Memory of linked light is = of

-- ---- a site has no fault

module _ (files : FileMap) (name : List ℕ) (fault : SiteFault) (site : Site) (of : IsOfFiles fault) (is : IsSiteOf files name site) where
  same_listing : (listing : Listing) → (v : Json) → IsFileOf files name v → listing_of v ≡ Ok listing → listing.entries ≡ is.listing.entries
  same_listing listing v file lists =
      ap (λ (l : Listing). l.entries) (ok_is listing is.listing (sym lists ∙ ap listing_of (one_file files name v is.own.value file is.own.file) ∙ is.own.lists))

  pub no_site : IsFirstFault files name fault → ⊥
  no_site (of_site wrong) =
      no_file_fault files name 0 listing_fault is.own.value is.own.file (let t = is.rest.together in omega (arith, t)) (ap result_err is.own.lists) fault of wrong
  no_site (of_entry listing own wrong) =
      let same = same_listing listing own.value own.file own.lists in
      let before = size_at files name in
      let here : slice_get is.listing.entries wrong.place ≡ Some wrong.entry = subst (λ (es : List Entry). slice_get es wrong.place ≡ Some wrong.entry) same wrong.here in
      let found = page_file_at files is.listing.entries site.pages wrong.place wrong.entry is.rest.pages_are here in
      let page = found.1 in
      no_file_fault files wrong.entry.file (before + sizes files (take wrong.place is.listing.entries)) (page_fault wrong.entry) page.value page.file
      (entry_fits files before is.listing.entries wrong.place wrong.entry here is.rest.together)
      (ap result_err page.spells) fault of
      (subst (λ (es : List Entry). IsFileFault files wrong.entry.file (before + sizes files (take wrong.place es)) (page_fault wrong.entry) fault) same wrong.fault_is)
  no_site (of_pages listing pages own good wrong) =
      let same = same_listing listing own.value own.file own.lists in
      let all : pages ≡ site.pages = same_pages files is.listing.entries pages site.pages (subst (λ (es : List Entry). ArePageFiles files es pages) same good.pages_are) is.rest.pages_are in
      no_pages_fault listing.entries site.pages fault of is.linked.linked is.linked.light (subst (λ (ps : List PageDef). IsPagesFault listing.entries ps fault) all wrong)
