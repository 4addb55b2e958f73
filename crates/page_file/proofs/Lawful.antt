-- The pages and the listings that values spell keep the rules.
use Rattle.std.proofs.Common.{◌≡◌, ℕ, ◌<◌, ◌≤◌, true, ◌&&◌, not, List, [], ◌∷◌, ◌++◌, Option, Some, None, Ok, length, refl, sym, subst, ◌∙◌, arith, tests, length-append}
use Rattle.std.proofs.lemmas.Bool.{and_from, not-true}
use Rattle.std.specs.Prelude.{nat_lt, nat_le}
use Rattle.std.proofs.lemmas.List.Folds.{list_all-append}
use Rattle.std.specs.List.{list_all, list_any, position}
use Rattle.std.specs.Option.{option_map, option_and_then}
use Rattle.std.specs.Str.{bytes_eq, encode_utf8_all}
use Rattle.page_engine.specs.Books.{is_entry, is_book}
use Rattle.page_engine.specs.Nodes.{has_none}
use Rattle.page_engine.specs.Pages.{IsLawfulPage, is_timer, max_timers, longest_load}
use Rattle.page_engine.specs.Sites.{IsAddress, address_named}
use Rattle.page_engine.specs.declared.book.BookEntry.{BookEntry}
use Rattle.page_engine.specs.declared.page_def.NodeDef.{NodeDef}
use Rattle.page_engine.specs.declared.page_def.PageDef.{PageDef}
use Rattle.page_engine.specs.declared.page_def.TimerDef.{TimerDef}
use Rattle.page_file.proofs.Tests.{first_of, second_of}
use Rattle.page_file.proofs.EntrySteps.{differ_more, place_within}
use Rattle.page_file.proofs.NodesRead.{nodes_lawful}
use Rattle.page_file.proofs.Rows.{done, ok_is, went_on, was_there, was_kept, rows_keep, rows_length}
use Rattle.page_file.proofs.SeenTexts.{differ_push, book_differs}
use Rattle.page_file.specs.Listings.{Top, top_in, top_of, is_count, entry_in, entry_of, address_of, names_page, next_entry, entries_differ, AreNamed, start_at, with_start, listing_in, listing_of, IsLawfulListing}
use Rattle.page_file.specs.Members.{object_of}
use Rattle.page_file.specs.NodeRows.{next_node}
use Rattle.page_file.specs.PageSpelled.{Parts, parts_in, parts_of, is_fine, page_with, page_in, page_of}
use Rattle.page_file.specs.Rows.{Fault, if_ok, or_fault, keep, rows}
use Rattle.page_file.specs.Scripts.{entry_of as script_of, is_next, next_script, script}
use Rattle.page_file.specs.Timers.{timer_of, next_timer}
use Rattle.page_file.specs.Values.{text_of, list_of}
use Rattle.page_file.specs.declared.listing.Entry.{Entry}
use Rattle.page_file.specs.declared.listing.Listing.{Listing}
use Rattle.page_file.specs.declared.why.Why.TheVariants as why
use Rattle.wd_json.specs.declared.value.Json.{Json}

-- ---- timers and scripts

abbrev AreTimers : List TimerDef → Type 0
AreTimers ts = (list_all is_timer ts ≡ true) × (length ts ≤ 1000)

room_left : (n : ℕ) → nat_lt n max_timers ≡ true → n < 1000
room_left n h = grind (arith, tests)

timer_more : (ts : List TimerDef) (v : Json) (t : TimerDef) → AreTimers ts → next_timer ts v ≡ Ok t → AreTimers (ts ++ t ∷ [])
timer_more ts v t old e =
    let test = λ (t : TimerDef). nat_lt (length ts) max_timers && is_timer t in
    let kept = was_kept test (timer_of v) t (was_there why.Timer (keep test (timer_of v)) t e) in
    let room = room_left (length ts) (first_of (nat_lt (length ts) max_timers) (is_timer t) kept.1) in
    let good = second_of (nat_lt (length ts) max_timers) (is_timer t) kept.1 in
    (list_all-append is_timer ts (t ∷ []) ∙ and_from (list_all is_timer ts) (is_timer t && true) old.0 (and_from (is_timer t) true good refl), omega (arith, length-append ts (t ∷ []), room))

script_more : (es : List BookEntry) (v : Json) (e : BookEntry) → is_book es ≡ true → next_script es v ≡ Ok e → is_book (es ++ e ∷ []) ≡ true
script_more es v e old is =
    let kept = was_kept (is_next es) (script_of v) e (was_there why.Script (keep (is_next es) (script_of v)) e is) in
    let had = list_any (λ (other : BookEntry). bytes_eq e.script other.script) es in
    book_differs (es ++ e ∷ []) ∙ differ_push is_entry script es e (sym (book_differs es) ∙ old) (first_of (is_entry e) (not had) kept.1) (not-true had (second_of (is_entry e) (not had) kept.1))

-- ---- pages

some_nodes : (vs : List Json) → not (has_none vs) ≡ true → 0 < length vs
some_nodes [] h = cc
some_nodes (v ∷ vs) h = omega arith

le_is : (m n : ℕ) → nat_le m n ≡ true → m ≤ n
le_is m n h = grind (arith, tests)

pub page_lawful : (address : List ℕ) (value : Json) (page : PageDef) → page_of address value ≡ Ok page → IsLawfulPage page
page_lawful address value page e =
    let top = went_on (page_in address) (or_fault (0, why.Shape) (parts_of value)) page e in
    let parts : Parts = top.0 in
    let fine = (was_kept is_fine (option_and_then parts_in (object_of value)) parts (was_there (0, why.Shape) (parts_of value) parts top.1)).1 in
    let order = nat_le parts.3.0 parts.3.1 in
    let late = nat_le parts.3.1 longest_load in
    let times = second_of (not (has_none parts.0)) (order && late) fine in
    let whole = λ (nodes : List NodeDef) (timers : List TimerDef) (book : List BookEntry). done Fault (page_with address parts nodes timers book) in
    let nodes = went_on (λ (ns : List NodeDef). if_ok (λ (ts : List TimerDef). if_ok (whole ns ts) (rows next_script parts.2)) (rows next_timer parts.1)) (rows next_node parts.0) page top.2 in
    let timers = went_on (λ (ts : List TimerDef). if_ok (whole nodes.0 ts) (rows next_script parts.2)) (rows next_timer parts.1) page nodes.2 in
    let book = went_on (whole nodes.0 timers.0) (rows next_script parts.2) page timers.2 in
    let fit : AreTimers timers.0 = rows_keep next_timer AreTimers timer_more parts.1 [] timers.0 (refl, omega arith) timers.1 in
    subst IsLawfulPage (ok_is (page_with address parts nodes.0 timers.0 book.0) page book.2) (record {
      nodes = nodes_lawful parts.0 nodes.0 nodes.1 (some_nodes parts.0 (first_of (not (has_none parts.0)) (order && late) fine));
      few_timers = fit.1;
      timers = fit.0;
      book = rows_keep next_script (λ (es : List BookEntry). is_book es ≡ true) script_more parts.2 [] book.0 refl book.1;
      eager = le_is parts.3.0 parts.3.1 (first_of order late times);
      load = le_is parts.3.1 longest_load (second_of order late times);
    })

-- ---- listings

named : (text : Option (List ℕ)) (address : List ℕ) → option_and_then (λ t. address_named (encode_utf8_all t)) text ≡ Some address → IsAddress address
named None address h = cc
named (Some text) address h = (encode_utf8_all text, h)

entry_named : (values : List Json) (entry : Entry) → entry_in values ≡ Some entry → IsAddress entry.address
entry_named [] entry h = cc
entry_named (a ∷ []) entry h = cc
entry_named (a ∷ f ∷ []) entry h = at (address_of a) (text_of f) refl h
  where
    at : (o : Option (List ℕ)) (t : Option (List ℕ)) → address_of a ≡ o
        → option_and_then (λ (address : List ℕ). option_map (λ (file : List ℕ). record { address = address; file = file }) t) o ≡ Some entry → IsAddress entry.address
    at None t is k = cc
    at (Some address) None is k = cc
    at (Some address) (Some file) is k = let same : address ≡ entry.address = cc in subst IsAddress same (named (text_of a) address is)
entry_named (a ∷ f ∷ g ∷ rest) entry h = cc

spelled_named : (o : Option (List Json)) (entry : Entry) → option_and_then entry_in o ≡ Some entry → IsAddress entry.address
spelled_named None entry h = cc
spelled_named (Some values) entry h = entry_named values entry h

named_more : (entries : List Entry) (entry : Entry) → AreNamed entries → IsAddress entry.address → AreNamed (entries ++ entry ∷ [])
named_more [] entry are is = (is, tt)
named_more (e ∷ entries) entry are is = (are.0, named_more entries entry are.1 is)

abbrev AreEntries : List Entry → Type 0
AreEntries entries = AreNamed entries × (entries_differ entries ≡ true)

entry_more : (entries : List Entry) (v : Json) (entry : Entry) → AreEntries entries → next_entry entries v ≡ Ok entry → AreEntries (entries ++ entry ∷ [])
entry_more entries v entry old e =
    let test = λ (entry : Entry). not (list_any (names_page entry.address) entries) in
    let kept = was_kept test (entry_of v) entry (was_there why.Address (keep test (entry_of v)) entry e) in
    (named_more entries entry old.0 (spelled_named (list_of v) entry kept.0), differ_more entries entry old.1 (not-true (list_any (names_page entry.address) entries) kept.1))

start_within : (entries : List Entry) (o : Option (List ℕ)) (k : ℕ) → option_and_then (λ (address : List ℕ). position (names_page address) entries) o ≡ Some k → k < length entries
start_within entries None k h = cc
start_within entries (Some address) k h = place_within (names_page address) entries k h

pub listing_lawful : (value : Json) (listing : Listing) → listing_of value ≡ Ok listing → IsLawfulListing listing
listing_lawful value listing e =
    let head = went_on listing_in (or_fault (0, why.Shape) (top_of value)) listing e in
    let top : Top = head.0 in
    let count = (was_kept is_count (option_and_then top_in (object_of value)) top (was_there (0, why.Shape) (top_of value) top head.1)).1 in
    let whole = λ (entries : List Entry) (start : ℕ). done Fault (with_start entries start) in
    let entries = went_on (λ (es : List Entry). if_ok (whole es) (or_fault (length top.1, why.Address) (start_at es top.0))) (rows next_entry top.1) listing head.2 in
    let start = went_on (whole entries.0) (or_fault (length top.1, why.Address) (start_at entries.0 top.0)) listing entries.2 in
    let are : AreEntries entries.0 = rows_keep next_entry AreEntries entry_more top.1 [] entries.0 (tt, refl) entries.1 in
    subst IsLawfulListing (ok_is (with_start entries.0 start.0) listing start.2) (record {
      few = omega (arith, rows_length next_entry top.1 [] entries.0 entries.1, le_is (length top.1) 1000 (second_of (nat_le 1 (length top.1)) (nat_le (length top.1) 1000) count));
      named = are.0;
      differ = are.1;
      start = start_within entries.0 (address_named (encode_utf8_all top.0)) start.0 (was_there (length top.1, why.Address) (start_at entries.0 top.0) start.0 start.1);
    })
