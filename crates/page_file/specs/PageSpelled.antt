-- Which page the value of a file spells, or the first thing that is wrong with it.
use Rattle.std.specs.Prelude.{ℕ, pos, Bool, ◌&&◌, not, nat_le, List, [], ◌∷◌, Option, Some, None, Result, Ok, codes, if◌then◌else◌}
use Rattle.std.specs.Option.{option_map, option_and_then}
use Rattle.page_engine.specs.Nodes.{has_none}
use Rattle.page_engine.specs.Pages.{longest_load}
use Rattle.page_engine.specs.declared.book.BookEntry.{BookEntry}
use Rattle.page_engine.specs.declared.page_def.NodeDef.{NodeDef}
use Rattle.page_engine.specs.declared.page_def.PageDef.{PageDef}
use Rattle.page_engine.specs.declared.page_def.TimerDef.{TimerDef}
use Rattle.page_file.specs.Members.{Members, object_of, has_only, is_version, optional}
use Rattle.page_file.specs.NodeRows.{next_node}
use Rattle.page_file.specs.Rows.{Fault, if_ok, or_fault, keep, rows}
use Rattle.page_file.specs.Scripts.{next_script}
use Rattle.page_file.specs.Timers.{next_timer}
use Rattle.page_file.specs.Values.{list_of}
use Rattle.page_file.specs.declared.why.Why.TheVariants.{Shape}
use Rattle.wd_json.specs.Keys.{get}
use Rattle.wd_json.specs.declared.value.Json.{Json, out-Json}
use Rattle.wd_json.specs.declared.value.Json.TheOpen.{Json-F}

-- ---- the top object

abbrev load_value : {A : Type 0} → Json-F A → Option ℕ
load_value (Json-F.Int (pos n)) = Some n
load_value v = None

-- milliseconds
abbrev pub load_of : Json → Option ℕ
load_of v = load_value (out-Json v)

-- until a navigation is interactive, and until it is complete
abbrev pub Times : Type 0
Times = ℕ × ℕ

abbrev pub times_in : Members → Option Times
times_in members =
    option_and_then (λ eager. option_map (λ load. (eager, load)) (optional 0 load_of (get (codes "load") members)))
    (optional 0 load_of (get (codes "eager") members))

abbrev pub page_names : List (List ℕ)
page_names = codes "wdpage" ∷ codes "nodes" ∷ codes "eager" ∷ codes "load" ∷ codes "timers" ∷ codes "scripts" ∷ []

-- nodes, timers and scripts
abbrev pub Lists : Type 0
Lists = List Json × List Json × List Json

abbrev pub lists_in : Members → Option Lists
lists_in members =
    option_and_then (λ nodes. option_and_then (λ timers. option_map (λ scripts. (nodes, timers, scripts))
    (optional [] list_of (get (codes "scripts") members)))
    (optional [] list_of (get (codes "timers") members)))
    (option_and_then list_of (get (codes "nodes") members))

abbrev pub Parts : Type 0
Parts = List Json × List Json × List Json × Times

abbrev pub with_times : Lists → Times → Parts
with_times lists times = (lists.0, lists.1, lists.2, times)

-- each member has its type, and there is no other
abbrev pub parts_in : Members → Option Parts
parts_in members =
    if has_only page_names members && is_version (get (codes "wdpage") members)
    then option_and_then (λ lists. option_map (with_times lists) (times_in members)) (lists_in members)
    else None

-- there is a node, and a navigation ends in time and no earlier than it is interactive
abbrev pub is_fine : Parts → Bool
is_fine parts = not (has_none parts.0) && (nat_le parts.3.0 parts.3.1 && nat_le parts.3.1 longest_load)

abbrev pub parts_of : Json → Option Parts
parts_of v = keep is_fine (option_and_then parts_in (object_of v))

-- ---- the page

abbrev pub page_with : List ℕ → Parts → List NodeDef → List TimerDef → List BookEntry → PageDef
page_with address parts nodes timers book = record { address = address; nodes = nodes; timers = timers; book = book; eager = parts.3.0; load = parts.3.1 }

-- nodes, then timers, then scripts
abbrev pub page_in : List ℕ → Parts → Result PageDef Fault
page_in address parts =
    if_ok (λ nodes. if_ok (λ timers. if_ok (λ book. Ok (page_with address parts nodes timers book))
    (rows next_script parts.2))
    (rows next_timer parts.1))
    (rows next_node parts.0)

-- the top object, then its lists
abbrev pub page_of : List ℕ → Json → Result PageDef Fault
page_of address v = if_ok (page_in address) (or_fault (0, Shape) (parts_of v))
