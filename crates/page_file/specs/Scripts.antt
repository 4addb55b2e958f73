-- Which answer to a script a value spells that comes after other answers.
use Rattle.std.specs.Prelude.{ℕ, ◌^◌, pos, Bool, false, ◌&&◌, not, nat_le, List, [], ◌∷◌, Option, Some, None, Result, codes, if◌then◌else◌}
use Rattle.std.specs.List.{list_any}
use Rattle.std.specs.Option.{option_map, option_and_then}
use Rattle.std.specs.Str.{bytes_eq}
use Rattle.page_engine.specs.Books.{is_entry}
use Rattle.page_engine.specs.declared.book.BookCell.{BookCell}
use Rattle.page_engine.specs.declared.book.BookEntry.{BookEntry}
use Rattle.page_engine.specs.declared.effect.Effect.{Effect}
use Rattle.page_file.specs.Cells.{cells_of}
use Rattle.page_file.specs.Members.{Members, object_of, has_only, optional}
use Rattle.page_file.specs.Rows.{or_fault, keep}
use Rattle.page_file.specs.Spelled.{effects_in}
use Rattle.page_file.specs.Values.{text_of, bool_of, number_of}
use Rattle.page_file.specs.declared.why.Why.{Why}
use Rattle.page_file.specs.declared.why.Why.TheVariants.{Script}
use Rattle.wd_json.specs.Keys.{get}
use Rattle.wd_json.specs.declared.value.Json.{Json, out-Json}
use Rattle.wd_json.specs.declared.value.Json.TheOpen.{Json-F}

abbrev end_value : {A : Type 0} → Json-F A → Option (Option ℕ)
end_value Json-F.Null = Some None
end_value (Json-F.Int (pos n)) = if nat_le n (2 ^ 40) then Some (Some n) else None
end_value v = None

-- milliseconds, or null for never
abbrev pub end_of : Json → Option (Option ℕ)
end_of v = end_value (out-Json v)

-- the place of the root, whether it is thrown, and when
abbrev pub Ends : Type 0
Ends = ℕ × Bool × Option ℕ

abbrev pub ends_in : Members → Option Ends
ends_in members =
    option_and_then (λ root. option_and_then (λ thrown. option_map (λ after. (root, thrown, after))
    (optional (Some 0) end_of (get (codes "after") members)))
    (optional false bool_of (get (codes "thrown") members)))
    (option_and_then number_of (get (codes "root") members))

abbrev pub script_effects_in : Members → Option (List Effect)
script_effects_in members = optional [] effects_in (get (codes "effects") members)

abbrev pub script_names : List (List ℕ)
script_names = codes "script" ∷ codes "cells" ∷ codes "root" ∷ codes "thrown" ∷ codes "after" ∷ codes "effects" ∷ []

abbrev pub answer : List ℕ → List BookCell → Ends → List Effect → BookEntry
answer script cells ends effects = record { script = script; cells = cells; root = ends.0; thrown = ends.1; after = ends.2; effects = effects }

-- the members of their types, and no other member
abbrev pub entry_in : Members → Option BookEntry
entry_in members =
    if has_only script_names members
    then option_and_then (λ ends. option_and_then (λ script. option_and_then (λ cells. option_map (answer script cells ends)
    (script_effects_in members))
    (option_and_then cells_of (get (codes "cells") members)))
    (option_and_then text_of (get (codes "script") members)))
    (ends_in members)
    else None

abbrev pub entry_of : Json → Option BookEntry
entry_of v = option_and_then entry_in (object_of v)

-- it keeps the rules, and its text is another than those of the earlier ones
abbrev pub is_next : List BookEntry → BookEntry → Bool
is_next earlier entry = is_entry entry && not (list_any (λ other. bytes_eq entry.script other.script) earlier)

abbrev pub next_script : List BookEntry → Json → Result BookEntry Why
next_script earlier v = or_fault Script (keep (is_next earlier) (entry_of v))

abbrev pub script : BookEntry → List ℕ
script entry = entry.script
