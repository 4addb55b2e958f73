-- When a site keeps the rules.
use Rattle.std.specs.Prelude.{◌≡◌, ℕ, ◌<◌, ◌≤◌, Bool, true, ◌&&◌, not, is_none, List, [], ◌∷◌, Option, Some, None, length, All, if◌then◌else◌}
use Rattle.std.specs.List.{list_any, position}
use Rattle.std.specs.Option.{option_and_then}
use Rattle.std.specs.Str.{bytes_eq}
use Rattle.url.specs.Parts.{Parts, serialize}
use Rattle.url.specs.Parser.{parse_url}
use Rattle.page_engine.specs.Links.{AreLinked, blank, parsed}
use Rattle.page_engine.specs.Pages.{IsLawfulPage}
use Rattle.page_engine.specs.declared.page_def.PageDef.{PageDef}
use Rattle.page_engine.specs.declared.site.Site.{Site}

abbrev pub max_pages : ℕ
max_pages = 1000

abbrev pub address_when : Option (List ℕ) → List ℕ → Option (List ℕ)
address_when fragment text = if is_none fragment && not (bytes_eq text blank) then Some text else None

abbrev pub own_address : Parts → Option (List ℕ)
own_address url = address_when url.fragment (serialize url)

-- the address that a text names: that of the URL which it is, as it is serialised; None where it is no URL,
-- has a fragment, or is `about:blank`
abbrev pub address_named : List ℕ → Option (List ℕ)
address_named text = option_and_then own_address (parsed (parse_url None text))

-- a text names it
abbrev pub IsAddress : List ℕ → Type 0
IsAddress address = (text : List ℕ) × (address_named text ≡ Some address)

abbrev pub has_address : List ℕ → PageDef → Bool
has_address address page = bytes_eq page.address address

-- no two pages have one address
abbrev pub addresses_differ : List PageDef → Bool
addresses_differ [] = true
addresses_differ (page ∷ pages) = not (list_any (has_address page.address) pages) && addresses_differ pages

pub record IsLawfulSite (site : Site) : Type 0 where
  pub few : length site.pages ≤ max_pages
  pub start : site.start < length site.pages
  pub addresses : All (λ page. IsAddress page.address) site.pages
  pub differ : addresses_differ site.pages ≡ true
  pub pages : All IsLawfulPage site.pages
  pub linked : AreLinked site.pages

-- the place of the first page with that address
abbrev pub page_at : List ℕ → List PageDef → Option ℕ
page_at address pages = position (has_address address) pages
