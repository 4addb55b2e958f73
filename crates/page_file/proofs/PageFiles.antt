-- One page more whose file was read.
use Rattle.std.proofs.Common.{◌≡◌, ℕ, zero, suc, ◌+◌, ◌<◌, ◌≤◌, List, All, [], ◌∷◌, ◌++◌, Some, length, take, map, get_or, sym, ap, subst, ◌∙◌, arith}
use Rattle.std.proofs.lemmas.List.{take_more, take_all, map-append}
use Rattle.std.proofs.lemmas.List.Elements.{All-append}
use Rattle.std.proofs.lemmas.Option.{slice_get-get_or}
use Rattle.page_engine.specs.Pages.{IsLawfulPage}
use Rattle.page_engine.specs.declared.page_def.PageDef.{PageDef}
use Rattle.page_file.proofs.HeavyPages.{sum_more}
use Rattle.page_file.specs.SiteFiles.{FileMap, files_limit, size_at, sizes, IsPageFile, ArePageFiles, AreGoodFiles, page_fault, IsFileFault, IsEntryFault}
use Rattle.page_file.specs.declared.listing.Entry.{Entry}
use Rattle.page_file.specs.declared.site_fault.SiteFault.{SiteFault}

files_more : (files : FileMap) (entries : List Entry) (pages : List PageDef) (entry : Entry) (page : PageDef) → ArePageFiles files entries pages → IsPageFile files entry page
    → ArePageFiles files (entries ++ entry ∷ []) (pages ++ page ∷ [])
files_more files [] [] entry page are is = (is, tt)
files_more files [] (p ∷ pages) entry page are is = absurd are
files_more files (e ∷ entries) [] entry page are is = absurd are
files_more files (e ∷ entries) (p ∷ pages) entry page are is = (are.0, files_more files entries pages entry page are.1 is)

module _ (files : FileMap) (before : ℕ) (entries : List Entry) where
  pub good_start : before ≤ files_limit → AreGoodFiles files before (take 0 entries) []
  good_start few = record { pages_are = tt; together = omega (arith, few) }

  pub good_end : (i : ℕ) (pages : List PageDef) → length entries ≤ i → AreGoodFiles files before (take i entries) pages → AreGoodFiles files before entries pages
  good_end i pages past good = subst (λ (es : List Entry). AreGoodFiles files before es pages) (take_all i entries past) good

module _ (files : FileMap) (before : ℕ) (entries : List Entry) (i : ℕ) (entry : Entry) (within : i < length entries) (here : entry ≡ get_or entries i entry) where
  one_more : take (i + 1) entries ≡ take i entries ++ entry ∷ []
  one_more = take_more entries i entry within ∙ ap (λ (e : Entry). take i entries ++ e ∷ []) (sym here)

  pub sizes_more : sizes files (take (i + 1) entries) ≡ sizes files (take i entries) + size_at files entry.file
  sizes_more = sum_more (λ (e : Entry). size_at files e.file) entries i entry within ∙ ap (λ (e : Entry). sizes files (take i entries) + size_at files e.file) (sym here)

  pub good_more : (pages : List PageDef) (page : PageDef) (total after : ℕ) → AreGoodFiles files before (take i entries) pages → total ≡ before + sizes files (take i entries) → IsPageFile files entry page
      → after ≡ total + size_at files entry.file → after ≤ files_limit → AreGoodFiles files before (take (i + 1) entries) (pages ++ page ∷ [])
  good_more pages page total after good is file more few = record {
    pages_are = subst (λ (es : List Entry). ArePageFiles files es (pages ++ page ∷ [])) (sym one_more) (files_more files (take i entries) pages entry page good.pages_are file);
    together = let s = sizes_more in omega (arith, s, is, more, few);
  }

  pub entry_fault : (pages : List PageDef) (total : ℕ) (fault : SiteFault) → AreGoodFiles files before (take i entries) pages → total ≡ before + sizes files (take i entries)
      → IsFileFault files entry.file total (page_fault entry) fault → IsEntryFault files before entries fault
  entry_fault pages total fault good is wrong = record {
    place = i;
    entry = entry;
    here = slice_get-get_or entries i entry within ∙ ap (λ (e : Entry). Some e) (sym here);
    pages = pages;
    good = good;
    fault_is = subst (λ (n : ℕ). IsFileFault files entry.file n (page_fault entry) fault) is wrong;
  }

  pub addresses_more : (pages : List PageDef) (page : PageDef) → map (λ p. p.address) pages ≡ map (λ e. e.address) (take i entries) → page.address ≡ entry.address
      → map (λ p. p.address) (pages ++ page ∷ []) ≡ map (λ e. e.address) (take (i + 1) entries)
  addresses_more pages page same is =
      map-append (λ (p : PageDef). p.address) pages (page ∷ [])
      ∙ ap (λ (ts : List (List ℕ)). ts ++ page.address ∷ []) same
      ∙ ap (λ (a : List ℕ). map (λ (e : Entry). e.address) (take i entries) ++ a ∷ []) is
      ∙ sym (map-append (λ (e : Entry). e.address) (take i entries) (entry ∷ []))
      ∙ ap (map (λ (e : Entry). e.address)) (sym one_more)

alone_lawful : (page : PageDef) → IsLawfulPage page → All IsLawfulPage (page ∷ [])
alone_lawful page is zero d within = is
alone_lawful page is (suc k) d within = absurd (omega (arith, within))

pub lawful_more : (pages : List PageDef) (page : PageDef) → All IsLawfulPage pages → IsLawfulPage page → All IsLawfulPage (pages ++ page ∷ [])
lawful_more pages page are is = All-append IsLawfulPage pages (page ∷ []) are (alone_lawful page is)
