-- A site whose pages have the addresses of a listing keeps the rules.
use Rattle.std.proofs.Common.{◌≡◌, ℕ, zero, suc, ◌≤◌, Bool, List, [], ◌∷◌, All, length, map, refl, sym, ap, subst, ◌∙◌, arith}
use Rattle.std.specs.Prelude.{not, ◌&&◌, ◌||◌, String}
use Rattle.std.specs.HashMap.{HashMap}
use Rattle.std.specs.List.{list_any, position}
use Rattle.std.specs.Str.{bytes_eq}
use Rattle.std.proofs.lemmas.List.{length-map}
use Rattle.page_engine.specs.Links.{AreLinked}
use Rattle.page_engine.specs.Pages.{IsLawfulPage}
use Rattle.page_engine.specs.Sites.{IsAddress, has_address, addresses_differ, IsLawfulSite}
use Rattle.page_engine.specs.declared.page_def.PageDef.{PageDef}
use Rattle.page_file.proofs.HeavyPages.{position_map}
use Rattle.page_file.specs.Index.{IsIndexOf, IsPageIndex}
use Rattle.page_file.specs.Listings.{names_page, entries_differ, AreNamed, IsLawfulListing}
use Rattle.page_file.specs.declared.listing.Entry.{Entry}
use Rattle.page_file.specs.declared.listing.Listing.{Listing}

-- the addresses of pages, and of entries
abbrev pub of_pages : List PageDef → List (List ℕ)
of_pages pages = map (λ page. page.address) pages

abbrev pub of_entries : List Entry → List (List ℕ)
of_entries entries = map (λ entry. entry.address) entries

pub same_count : (pages : List PageDef) (entries : List Entry) → of_pages pages ≡ of_entries entries → length pages ≡ length entries
same_count pages entries same = sym (length-map pages (λ (page : PageDef). page.address)) ∙ ap length same ∙ length-map entries (λ (entry : Entry). entry.address)

-- ---- places by address

same_place : (q : List ℕ) (pages : List PageDef) (entries : List Entry) → of_pages pages ≡ of_entries entries → position (names_page q) entries ≡ position (λ (page : PageDef). bytes_eq page.address q) pages
same_place q pages entries same =
    sym (position_map (λ (a : List ℕ). bytes_eq a q) (names_page q) (λ (entry : Entry). entry.address) (λ entry. refl) entries)
    ∙ ap (position (λ (a : List ℕ). bytes_eq a q)) (sym same)
    ∙ position_map (λ (a : List ℕ). bytes_eq a q) (λ (page : PageDef). bytes_eq page.address q) (λ (page : PageDef). page.address) (λ page. refl) pages

pub page_index : {Y S : Type 0} (places : HashMap (String Y) ℕ S) (pages : List PageDef) (entries : List Entry) → of_pages pages ≡ of_entries entries → IsIndexOf entries places → IsPageIndex pages places
page_index places pages entries same index q = index q ∙ same_place q pages entries same

-- ---- no two addresses are one

any_same : {X Y : Type 0} (p : X → Bool) (q : Y → Bool) (f : X → List ℕ) (g : Y → List ℕ) (test : List ℕ → Bool) → ((x : X) → p x ≡ test (f x)) → ((y : Y) → q y ≡ test (g y))
    → (xs : List X) (ys : List Y) → map f xs ≡ map g ys → list_any p xs ≡ list_any q ys
any_same p q f g test is js [] [] same = refl
any_same p q f g test is js [] (y ∷ ys) same = cc
any_same p q f g test is js (x ∷ xs) [] same = cc
any_same p q f g test is js (x ∷ xs) (y ∷ ys) same =
    let first : f x ≡ g y = cc in
    let rest : map f xs ≡ map g ys = cc in
    let one : p x ≡ q y = is x ∙ ap test first ∙ sym (js y) in
    ap (λ (b : Bool). b || list_any p xs) one ∙ ap (λ (b : Bool). q y || b) (any_same p q f g test is js xs ys rest)

pub pages_differ : (pages : List PageDef) (entries : List Entry) → of_pages pages ≡ of_entries entries → addresses_differ pages ≡ entries_differ entries
pages_differ [] [] same = refl
pages_differ [] (entry ∷ entries) same = cc
pages_differ (page ∷ pages) [] same = cc
pages_differ (page ∷ pages) (entry ∷ entries) same =
    let first : page.address ≡ entry.address = cc in
    let rest : of_pages pages ≡ of_entries entries = cc in
    let one : list_any (has_address page.address) pages ≡ list_any (names_page page.address) entries =
    any_same (has_address page.address) (names_page page.address) (λ (p : PageDef). p.address) (λ (e : Entry). e.address) (λ (a : List ℕ). bytes_eq a page.address) (λ p. refl) (λ e. refl) pages entries rest in
    ap (λ (b : Bool). not b && addresses_differ pages) one
    ∙ ap (λ (a : List ℕ). not (list_any (names_page a) entries) && addresses_differ pages) first
    ∙ ap (λ (b : Bool). not (list_any (names_page entry.address) entries) && b) (pages_differ pages entries rest)

-- ---- all rules together

pages_named : (pages : List PageDef) (entries : List Entry) → of_pages pages ≡ of_entries entries → AreNamed entries → All (λ page. IsAddress page.address) pages
pages_named [] entries same are k d within = absurd (omega (arith, within))
pages_named (page ∷ pages) [] same are k d within = cc
pages_named (page ∷ pages) (entry ∷ entries) same are zero d within = let first : page.address ≡ entry.address = cc in subst IsAddress (sym first) are.0
pages_named (page ∷ pages) (entry ∷ entries) same are (suc k) d within = let rest : of_pages pages ≡ of_entries entries = cc in pages_named pages entries rest are.1 k d (omega (arith, within))

pub lawful_site : (listing : Listing) (pages : List PageDef) → IsLawfulListing listing → of_pages pages ≡ of_entries listing.entries → All IsLawfulPage pages → AreLinked pages
    → IsLawfulSite (record { start = listing.start; pages = pages })
lawful_site listing pages is same lawful linked =
    let many : length pages ≡ length listing.entries = same_count pages listing.entries same in
    record {
      few = omega (arith, many, is.few);
      start = omega (arith, many, is.start);
      addresses = pages_named pages listing.entries same is.named;
      differ = pages_differ pages listing.entries same ∙ is.differ;
      pages = lawful;
      linked = linked;
    }

-- no page of such a site has too many nodes
pub few_nodes : (pages : List PageDef) → All IsLawfulPage pages → All (λ page. length page.nodes ≤ 50000) pages
few_nodes pages lawful k d within = (lawful k d within).nodes.few
