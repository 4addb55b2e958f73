-- What an event does to a page: it is logged, and the handlers on its path run.
use Rattle.std.specs.Prelude.{ℕ, ◌||◌, Bool, List, [], ◌∷◌, ◌++◌, slice_index_or, if◌then◌else◌}
use Rattle.std.specs.List.{flat_map}
use Rattle.page_tree.specs.Places.{lineage}
use Rattle.page_tree.specs.Rows.{Rows}
use Rattle.page_engine.specs.Effects.{effects_on}
use Rattle.page_engine.specs.Fitting.{anywhere, timed}
use Rattle.page_engine.specs.Kinds.{is_same_kind}
use Rattle.page_engine.specs.Lines.{line, logged}
use Rattle.page_engine.specs.Scene.{Scene}
use Rattle.page_engine.specs.Timers.{Timer}
use Rattle.page_engine.specs.declared.at.At.{At}
use Rattle.page_engine.specs.declared.effect.Effect.{Effect}
use Rattle.page_engine.specs.declared.event.Event.{Event}
use Rattle.page_engine.specs.declared.event.Event.TheVariants.{Pointer, Key, Plain}
use Rattle.page_engine.specs.declared.event.EventKind.{EventKind}
use Rattle.page_engine.specs.declared.event.EventKind.TheVariants.{Focus, Blur}

abbrev pub Handlers : Type 0
Handlers = List (EventKind × List Effect)

abbrev pub kind_of : Event → EventKind
kind_of (Pointer kind target at button) = kind
kind_of (Key kind target key shift control alt meta) = kind
kind_of (Plain kind target) = kind

abbrev pub target_of : Event → ℕ
target_of (Pointer kind target at button) = target
target_of (Key kind target key shift control alt meta) = target
target_of (Plain kind target) = target

abbrev pub stays_at_target : EventKind → Bool
stays_at_target kind = is_same_kind kind Focus || is_same_kind kind Blur

-- the target and all nodes above it, through hosts; of focus and blur the target alone
abbrev pub event_path : Rows → EventKind → ℕ → List ℕ
event_path rows kind target = if stays_at_target kind then target ∷ [] else lineage rows.ups target

-- the effects of a node's handlers for that type of event
abbrev pub effects_for : EventKind → Handlers → List Effect
effects_for kind [] = []
effects_for kind (h ∷ hs) = (if is_same_kind h.0 kind then h.1 else []) ++ effects_for kind hs

abbrev pub effects_at : List Handlers → EventKind → ℕ → List Effect
effects_at handlers kind n = effects_for kind (slice_index_or handlers n [])

-- the effects of all handlers on the path
abbrev pub effects_along : List Handlers → EventKind → List ℕ → List Effect
effects_along handlers kind path = flat_map (effects_at handlers kind) path

-- The default actions come with element interaction: their one place is here, and they change
-- nothing yet.
abbrev pub default_action : At → Event → Scene → Scene
default_action at event s = s

-- the line is logged, then the handlers on the path run, which was fixed before, then the default action
abbrev pub dispatched : List Handlers → At → Event → Scene → Scene
dispatched handlers at event s =
    default_action at event
    (effects_on at anywhere (record s { log = logged (line event) s.log }) (effects_along handlers (kind_of event) (event_path s.rows (kind_of event) (target_of event))))

-- the first timer runs, and is pending no longer
abbrev pub due_run : ℕ → Scene → List Timer → Scene
due_run now s [] = s
due_run now s (timer ∷ timers) = effects_on (record { now = now; first = 0 }) timed (record s { pending = timers }) timer.1
