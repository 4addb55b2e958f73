-- Which timer a value spells that comes after other timers.
use Rattle.std.specs.Prelude.{ℕ, ◌&&◌, nat_lt, List, [], ◌∷◌, Option, None, Result, length, codes, if◌then◌else◌}
use Rattle.std.specs.Option.{option_map, option_and_then}
use Rattle.page_engine.specs.Pages.{max_timers, is_timer}
use Rattle.page_engine.specs.declared.page_def.TimerDef.{TimerDef}
use Rattle.page_file.specs.Members.{Members, object_of, has_only}
use Rattle.page_file.specs.Rows.{or_fault, keep}
use Rattle.page_file.specs.Spelled.{all_in, timed_effect}
use Rattle.page_file.specs.Values.{wait_of}
use Rattle.page_file.specs.declared.why.Why.{Why}
use Rattle.page_file.specs.declared.why.Why.TheVariants.{Timer}
use Rattle.wd_json.specs.Keys.{get}
use Rattle.wd_json.specs.declared.value.Json.{Json}

abbrev pub timer_names : List (List ℕ)
timer_names = codes "at" ∷ codes "do" ∷ []

-- `at` and `do`, and no other member
abbrev pub timer_in : Members → Option TimerDef
timer_in members =
    if has_only timer_names members
    then option_and_then (λ ms. option_map (λ effects. record { at = ms; effects = effects })
    (option_and_then (all_in timed_effect) (get (codes "do") members)))
    (option_and_then wait_of (get (codes "at") members))
    else None

abbrev pub timer_of : Json → Option TimerDef
timer_of v = option_and_then timer_in (object_of v)

-- no more than 1,000 keep the rules
abbrev pub next_timer : List TimerDef → Json → Result TimerDef Why
next_timer earlier v = or_fault Timer (keep (λ timer. nat_lt (length earlier) max_timers && is_timer timer) (timer_of v))
