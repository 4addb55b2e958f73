-- Which listing of pages the value of a site's file spells, or the first thing that is wrong with it.
use Rattle.std.specs.Prelude.{◌≡◌, ℕ, ◌<◌, ◌≤◌, nat_le, Bool, true, ◌&&◌, not, List, [], ◌∷◌, Option, None, Result, Ok, length, codes, if◌then◌else◌}
use Rattle.std.specs.List.{list_any, position}
use Rattle.std.specs.Option.{option_map, option_and_then}
use Rattle.std.specs.Str.{bytes_eq, encode_utf8_all}
use Rattle.page_engine.specs.Sites.{max_pages, address_named, IsAddress}
use Rattle.page_file.specs.Members.{Members, object_of, has_only, is_version}
use Rattle.page_file.specs.Rows.{Fault, if_ok, or_fault, keep, rows}
use Rattle.page_file.specs.Values.{text_of, list_of}
use Rattle.page_file.specs.declared.listing.Entry.{Entry}
use Rattle.page_file.specs.declared.listing.Listing.{Listing}
use Rattle.page_file.specs.declared.why.Why.{Why}
use Rattle.page_file.specs.declared.why.Why.TheVariants.{Shape, Address}
use Rattle.wd_json.specs.Keys.{get}
use Rattle.wd_json.specs.declared.value.Json.{Json}

-- ---- the top object

abbrev pub site_names : List (List ℕ)
site_names = codes "pages" ∷ codes "start" ∷ codes "wdsite" ∷ []

-- the text of the start, and the values of the entries
abbrev pub Top : Type 0
Top = List ℕ × List Json

abbrev pub values_in : Members → Option (List Json)
values_in members = option_and_then list_of (get (codes "pages") members)

abbrev pub start_in : Members → Option (List ℕ)
start_in members = option_and_then text_of (get (codes "start") members)

abbrev pub top_in : Members → Option Top
top_in members =
    if has_only site_names members && is_version (get (codes "wdsite") members)
    then option_and_then (λ start. option_map (λ values. (start, values)) (values_in members)) (start_in members)
    else None

-- 1 to 1,000 entries
abbrev pub is_count : Top → Bool
is_count top = nat_le 1 (length top.1) && nat_le (length top.1) max_pages

abbrev pub top_of : Json → Option Top
top_of v = keep is_count (option_and_then top_in (object_of v))

-- ---- its entries

-- the address that a value names
abbrev pub address_of : Json → Option (List ℕ)
address_of v = option_and_then (λ text. address_named (encode_utf8_all text)) (text_of v)

-- an address, and the name of a file
abbrev pub entry_in : List Json → Option Entry
entry_in (a ∷ f ∷ []) = option_and_then (λ address. option_map (λ file. record { address = address; file = file }) (text_of f)) (address_of a)
entry_in values = None

abbrev pub entry_of : Json → Option Entry
entry_of v = option_and_then entry_in (list_of v)

abbrev pub names_page : List ℕ → Entry → Bool
names_page address entry = bytes_eq entry.address address

-- its address is none of the earlier ones
abbrev pub next_entry : List Entry → Json → Result Entry Why
next_entry earlier v = or_fault Address (keep (λ entry. not (list_any (names_page entry.address) earlier)) (entry_of v))

-- no two have one address
abbrev pub entries_differ : List Entry → Bool
entries_differ [] = true
entries_differ (entry ∷ entries) = not (list_any (names_page entry.address) entries) && entries_differ entries

-- each has an address that a text names
abbrev pub AreNamed : List Entry → Type 0
AreNamed [] = Unit {0}
AreNamed (entry ∷ entries) = IsAddress entry.address × AreNamed entries

-- the place of the page that the text names
abbrev pub start_at : List Entry → List ℕ → Option ℕ
start_at entries text = option_and_then (λ address. position (names_page address) entries) (address_named (encode_utf8_all text))

-- ---- the listing

abbrev pub with_start : List Entry → ℕ → Listing
with_start entries start = record { start = start; entries = entries }

-- the entries by their places, then the start, whose fault stands behind them
abbrev pub listing_in : Top → Result Listing Fault
listing_in top =
    if_ok (λ entries. if_ok (λ start. Ok (with_start entries start)) (or_fault (length top.1, Address) (start_at entries top.0)))
    (rows next_entry top.1)

-- first the top object
abbrev pub listing_of : Json → Result Listing Fault
listing_of v = if_ok listing_in (or_fault (0, Shape) (top_of v))

-- ---- for private clauses

-- a text whose characters are its bytes, as that of every serialised URL
abbrev pub IsPlain : List ℕ → Type 0
IsPlain text = encode_utf8_all text ≡ text

-- what every listing keeps
pub record IsLawfulListing (listing : Listing) : Type 0 where
  pub few : length listing.entries ≤ max_pages
  pub named : AreNamed listing.entries
  pub differ : entries_differ listing.entries ≡ true
  pub start : listing.start < length listing.entries
