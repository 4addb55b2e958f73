-- Which site the files spell, and the first thing that is wrong with them.
use Rattle.std.specs.Prelude.{◌≡◌, ℕ, ◌+◌, ◌≤◌, ◌||◌, nat_lt, Bool, true, false, List, [], ◌∷◌, Option, Some, Ok, length, map, sum, take, slice_get}
use Rattle.std.specs.List.{list_all, position}
use Rattle.std.specs.Option.{option_map, option_and_then, option_map_or}
use Rattle.std.specs.Result.{result_err}
use Rattle.std.specs.Str.{encode_utf8_all}
use Rattle.page_engine.specs.declared.page_def.PageDef.{PageDef}
use Rattle.page_engine.specs.declared.site.Site.{Site}
use Rattle.page_engine.specs.Links.{AreLinked, is_linked}
use Rattle.page_file.specs.Listings.{listing_of}
use Rattle.page_file.specs.PageSpelled.{page_of}
use Rattle.page_file.specs.Rows.{Fault}
use Rattle.page_file.specs.Weighing.{is_unlinked, is_heavy}
use Rattle.page_file.specs.declared.listing.Entry.{Entry}
use Rattle.page_file.specs.declared.listing.Listing.{Listing}
use Rattle.page_file.specs.declared.site_fault.SiteFault.{SiteFault}
use Rattle.page_file.specs.declared.site_fault.SiteFault.TheVariants.{Read, TooLong, Bad, Links, Memory}
use Rattle.page_file.specs.declared.why.Why.{Why}
use Rattle.page_file.specs.declared.why.Why.TheVariants as reason
use Rattle.wd_http.specs.Files.{file_at}
use Rattle.wd_json.specs.Json.{data_of}
use Rattle.wd_json.specs.Whole.{ReadsAs, is_whole}
use Rattle.wd_json.specs.declared.value.Json.{Json}

-- a file has at most so many bytes
abbrev pub file_limit : ℕ
file_limit = 8388608

-- the files of a site have together at most so many
abbrev pub files_limit : ℕ
files_limit = 33554432

-- names, as their characters, and bytes
abbrev pub FileMap : Type 0
FileMap = List (List ℕ × List ℕ)

-- the bytes of the file with these characters as its name
abbrev pub bytes_at : FileMap → List ℕ → Option (List ℕ)
bytes_at files name = file_at (encode_utf8_all name) files

-- how many bytes it has; 0 where there is none
abbrev pub size_at : FileMap → List ℕ → ℕ
size_at files name = option_map_or length (bytes_at files name) 0

-- how many bytes the files of these entries have, one that is named twice counted twice
abbrev pub sizes : FileMap → List Entry → ℕ
sizes files entries = sum (map (λ entry. size_at files entry.file) entries)

-- the bytes are the text of this value, whose numbers are whole
abbrev pub IsTextOf : List ℕ → Json → Type 0
IsTextOf bytes v = ReadsAs bytes (data_of v) × (is_whole (data_of v) ≡ true)

-- ---- a good site

-- the file of that name isn't too long, and is the text of this value
pub record IsFileOf (files : FileMap) (name : List ℕ) (v : Json) : Type 0 where
  pub bytes : List ℕ
  pub here : bytes_at files name ≡ Some bytes
  pub fits : length bytes ≤ file_limit
  pub text : IsTextOf bytes v

-- the file of that name lists pages
pub record IsListingFile (files : FileMap) (name : List ℕ) (listing : Listing) : Type 0 where
  pub value : Json
  pub file : IsFileOf files name value
  pub lists : listing_of value ≡ Ok listing

-- the entry's file spells this page
pub record IsPageFile (files : FileMap) (entry : Entry) (page : PageDef) : Type 0 where
  pub value : Json
  pub file : IsFileOf files entry.file value
  pub spells : page_of entry.address value ≡ Ok page

-- each entry's file spells the page at its place
abbrev pub ArePageFiles : FileMap → List Entry → List PageDef → Type 0
ArePageFiles files [] [] = Unit {0}
ArePageFiles files (entry ∷ entries) (page ∷ pages) = IsPageFile files entry page × ArePageFiles files entries pages
ArePageFiles files entries pages = ⊥

-- The files of these entries spell these pages, and with so many bytes before them they aren't too long.
pub record AreGoodFiles (files : FileMap) (before : ℕ) (entries : List Entry) (pages : List PageDef) : Type 0 where
  pub pages_are : ArePageFiles files entries pages
  pub together : before + sizes files entries ≤ files_limit

pub record IsSiteOf (files : FileMap) (name : List ℕ) (site : Site) : Type 0 where
  pub listing : Listing
  pub own : IsListingFile files name listing
  pub rest : AreGoodFiles files (size_at files name) listing.entries site.pages
  pub start : site.start ≡ listing.start
  pub linked : AreLinked site.pages

-- ---- the first thing that is wrong

-- it shows that files are too long at one of so many bytes, where so many were read before it
abbrev pub is_too_long : ℕ → ℕ → Bool
is_too_long before size = nat_lt file_limit size || nat_lt files_limit (before + size)

pub record IsTooLongAt (files : FileMap) (name : List ℕ) (before : ℕ) : Type 0 where
  pub bytes : List ℕ
  pub here : bytes_at files name ≡ Some bytes
  pub long : is_too_long before (length bytes) ≡ true

-- what is wrong with bytes: they are the text of no value, or of one with this fault
pub data IsWrong (bytes : List ℕ) (wrong : Json → Option Fault) (row : ℕ) (why : Why) : Type 0 where
  no_value : ((v : Json) → IsTextOf bytes v → ⊥) → row ≡ 0 → why ≡ reason.Json → IsWrong bytes wrong row why
  bad_value : (v : Json) → IsTextOf bytes v → wrong v ≡ Some (row, why) → IsWrong bytes wrong row why

pub record IsBadAt (files : FileMap) (name : List ℕ) (before : ℕ) (wrong : Json → Option Fault) (row : ℕ) (why : Why) : Type 0 where
  pub bytes : List ℕ
  pub here : bytes_at files name ≡ Some bytes
  pub fits : is_too_long before (length bytes) ≡ false
  pub is_wrong : IsWrong bytes wrong row why

-- the first thing that is wrong with the value of the site's file, and with that of an entry's file
abbrev pub listing_fault : Json → Option Fault
listing_fault v = result_err (listing_of v)

abbrev pub page_fault : Entry → Json → Option Fault
page_fault entry v = result_err (page_of entry.address v)

-- What is wrong with the file of that name, where so many bytes were read before it, and a value has a fault by
-- `wrong`. That it couldn't be read, and want of memory, say nothing of what it holds.
abbrev pub IsFileFault : FileMap → List ℕ → ℕ → (Json → Option Fault) → SiteFault → Type 0
IsFileFault files name before wrong (Read n) = n ≡ name
IsFileFault files name before wrong (TooLong n) = (n ≡ name) × IsTooLongAt files name before
IsFileFault files name before wrong (Bad n row why) = (n ≡ name) × IsBadAt files name before wrong row why
IsFileFault files name before wrong (Links n) = ⊥
IsFileFault files name before wrong Memory = Unit {0}

-- What is wrong with the first of these entries' files that isn't good, where so many bytes were read before them all.
pub record IsEntryFault (files : FileMap) (before : ℕ) (entries : List Entry) (fault : SiteFault) : Type 0 where
  pub place : ℕ
  pub entry : Entry
  pub here : slice_get entries place ≡ Some entry
  pub pages : List PageDef
  pub good : AreGoodFiles files before (take place entries) pages
  pub fault_is : IsFileFault files entry.file (before + sizes files (take place entries)) (page_fault entry) fault

-- the file of the first page of which the test holds
abbrev pub first_file : List Entry → List PageDef → (PageDef → Bool) → Option (List ℕ)
first_file entries pages test = option_map (λ entry. entry.file) (option_and_then (slice_get entries) (position test pages))

-- What is wrong with pages that were all read: the first that leads to no page, else the first that is too heavy.
abbrev pub IsPagesFault : List Entry → List PageDef → SiteFault → Type 0
IsPagesFault entries pages (Read n) = ⊥
IsPagesFault entries pages (TooLong n) = ⊥
IsPagesFault entries pages (Bad n row why) =
    (list_all (is_linked pages) pages ≡ true) × (first_file entries pages (is_heavy pages) ≡ Some n) × (row ≡ 0) × (why ≡ reason.Weight)
IsPagesFault entries pages (Links n) = first_file entries pages (is_unlinked pages) ≡ Some n
IsPagesFault entries pages Memory = Unit {0}

-- The site's own file is looked at first, then those of its pages in their order, then all pages together.
pub data IsFirstFault (files : FileMap) (name : List ℕ) (fault : SiteFault) : Type 0 where
  of_site : IsFileFault files name 0 listing_fault fault → IsFirstFault files name fault
  of_entry : (listing : Listing) → IsListingFile files name listing → IsEntryFault files (size_at files name) listing.entries fault → IsFirstFault files name fault
  of_pages : (listing : Listing) (pages : List PageDef) → IsListingFile files name listing
      → AreGoodFiles files (size_at files name) listing.entries pages → IsPagesFault listing.entries pages fault → IsFirstFault files name fault

-- the fault says something of what the files hold
abbrev pub IsOfFiles : SiteFault → Type 0
IsOfFiles (Read name) = ⊥
IsOfFiles (TooLong name) = Unit {0}
IsOfFiles (Bad name row why) = Unit {0}
IsOfFiles (Links name) = Unit {0}
IsOfFiles Memory = ⊥

-- A read that failed raised the count of faults by one; what else was wrong left it as it was.
abbrev pub IsReadCause : ℕ → ℕ → SiteFault → Type 0
IsReadCause before now (Read name) = now ≡ before + 1
IsReadCause before now (TooLong name) = now ≡ before
IsReadCause before now (Bad name row why) = now ≡ before
IsReadCause before now (Links name) = now ≡ before
IsReadCause before now Memory = now ≡ before
