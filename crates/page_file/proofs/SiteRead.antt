-- A site of files that were read in their order, or the first fault of it.
use Rattle.std.proofs.Common.{◌≡◌, ℕ, ◌+◌, List, subst, refl, arith}
use Rattle.page_engine.specs.Links.{AreLinked}
use Rattle.page_engine.specs.declared.page_def.PageDef.{PageDef}
use Rattle.page_file.specs.SiteFiles.{FileMap, size_at, IsListingFile, AreGoodFiles, IsSiteOf, listing_fault, IsFileFault, IsEntryFault, IsPagesFault, IsFirstFault, of_site, of_entry, of_pages}
use Rattle.page_file.specs.declared.listing.Listing.{Listing}
use Rattle.page_file.specs.declared.site_fault.SiteFault.{SiteFault}
use Rattle.page_file.specs.declared.site_fault.SiteFault.TheVariants.{Memory}

-- want of memory says nothing of the files
pub no_memory : (files : FileMap) (name : List ℕ) → IsFirstFault files name Memory
no_memory files name = of_site tt

pub own_fault : (files : FileMap) (own name : List ℕ) (fault : SiteFault) → own ≡ name → IsFileFault files own 0 listing_fault fault → IsFirstFault files name fault
own_fault files own name fault named wrong = subst (λ (n : List ℕ). IsFirstFault files n fault) named (of_site wrong)

-- what was read of the pages, after the listing: from the same files, and with the bytes of its file before them
module _ (files after : FileMap) (own name : List ℕ) (total : ℕ) (listing : Listing) (named : own ≡ name) (same : after ≡ files) (size : total ≡ 0 + size_at files own) (file : IsListingFile files own listing) where
  before : total ≡ size_at files own
  before = omega (arith, size)

  good_files : (pages : List PageDef) → AreGoodFiles after total listing.entries pages → AreGoodFiles files (size_at files own) listing.entries pages
  good_files pages good = subst (λ (n : ℕ). AreGoodFiles files n listing.entries pages) before (subst (λ (fs : FileMap). AreGoodFiles fs total listing.entries pages) same good)

  pub site_read : (pages : List PageDef) → AreGoodFiles after total listing.entries pages → AreLinked pages → IsSiteOf files name (record { start = listing.start; pages = pages })
  site_read pages good linked =
      subst (λ (n : List ℕ). IsSiteOf files n (record { start = listing.start; pages = pages })) named
      (record { listing = listing; own = file; rest = good_files pages good; start = refl; linked = linked })

  pub entry_first : (fault : SiteFault) → IsEntryFault after total listing.entries fault → IsFirstFault files name fault
  entry_first fault wrong =
      subst (λ (n : List ℕ). IsFirstFault files n fault) named
      (of_entry listing file (subst (λ (n : ℕ). IsEntryFault files n listing.entries fault) before (subst (λ (fs : FileMap). IsEntryFault fs total listing.entries fault) same wrong)))

  pub pages_first : (pages : List PageDef) (fault : SiteFault) → AreGoodFiles after total listing.entries pages → IsPagesFault listing.entries pages fault → IsFirstFault files name fault
  pages_first pages fault good wrong = subst (λ (n : List ℕ). IsFirstFault files n fault) named (of_pages listing pages file (good_files pages good) wrong)
