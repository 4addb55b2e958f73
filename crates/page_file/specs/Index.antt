-- An index of places by addresses, and what it is of.
use Rattle.std.specs.Prelude.{◌≡◌, ℕ, List}
use Rattle.std.specs.List.{position}
use Rattle.std.specs.HashMap.{HashMap, get_by_text}
use Rattle.std.specs.Prelude.{String}
use Rattle.std.specs.Str.{bytes_eq}
use Rattle.page_engine.specs.declared.page_def.PageDef.{PageDef}
use Rattle.page_file.specs.Listings.{names_page}
use Rattle.page_file.specs.declared.listing.Entry.{Entry}

-- each address has the place of the first entry with it
abbrev pub IsIndexOf : {Y S : Type 0} → List Entry → HashMap (String Y) ℕ S → Type 0
IsIndexOf entries places = (q : List ℕ) → get_by_text places q ≡ position (names_page q) entries

-- each address has the place of the first page with it
abbrev pub IsPageIndex : {Y S : Type 0} → List PageDef → HashMap (String Y) ℕ S → Type 0
IsPageIndex pages places = (q : List ℕ) → get_by_text places q ≡ position (λ page. bytes_eq page.address q) pages
