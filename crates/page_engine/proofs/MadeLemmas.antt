-- How many timers a dispatch makes: their numbers are at most 2^62, and timers and the lists of prompts make none.
use Rattle.std.proofs.Common.{◌≡◌, ◌≤◌, ◌<◌, ◌+◌, ◌∙◌, ℕ, Bool, true, false, List, [], ◌∷◌, refl, arith}
use Rattle.std.specs.Prelude.{if◌then◌else◌, ◌&&◌, nat_lt, length}
use Rattle.std.proofs.lemmas.Bool.{ltb-true}
use Rattle.waits.specs.Moments.{last_moment}
use Rattle.page_engine.specs.Closing.{prompt_closed, closing_effects, closing_line}
use Rattle.page_engine.specs.Dispatch.{Handlers, dispatched, due_run, effects_along, event_path, kind_of, target_of}
use Rattle.page_engine.specs.Effects.{effect_case, effect_on, effects_on, has_timer, starting, asking}
use Rattle.page_engine.specs.Fitting.{anywhere, timed, answering}
use Rattle.page_engine.specs.Lines.{line, logged}
use Rattle.page_engine.specs.Pages.{max_timers}
use Rattle.page_engine.specs.Scene.{Scene}
use Rattle.page_engine.specs.Timers.{Timer}
use Rattle.page_engine.specs.declared.at.At.{At}
use Rattle.page_engine.specs.declared.effect.Effect.{Effect, out-Effect}
use Rattle.page_engine.specs.declared.effect.Effect.TheOpen.{Effect-F}
use Rattle.page_engine.specs.declared.effect.Prompt.{Prompt}
use Rattle.page_engine.specs.declared.event.Event.{Event}
use Rattle.page_engine.specs.declared.place.Place.{Place}

abbrev Fits : At → Scene → Type 0
Fits at s = at.first + s.asked.made ≤ last_moment

prompted : (at : At) (s : Scene) (prompt : Prompt) (b : Bool) → Fits at s → Fits at (if b then asking s prompt else s)
prompted at s prompt true h = h
prompted at s prompt false h = h

started : (at : At) (s : Scene) (ms : ℕ) (effects : List Effect) (afters few small : Bool) → nat_lt (at.first + s.asked.made) last_moment ≡ small → Fits at s
    → Fits at (if afters && (few && small) then starting at s ms effects else s)
started at s ms effects true true true is h = let less : at.first + s.asked.made < last_moment = ltb-true (at.first + s.asked.made) last_moment is in omega (arith, less)
started at s ms effects true true false is h = h
started at s ms effects true false small is h = h
started at s ms effects false few small is h = h

effect_fits : (at : At) (place : Place) (s : Scene) (e : Effect-F Effect) → Fits at s → Fits at (effect_case at place s e)
effect_fits at place s (Effect-F.Remove node) h = h
effect_fits at place s (Effect-F.Insert node parent under) h = h
effect_fits at place s (Effect-F.Attr node name value) h = h
effect_fits at place s (Effect-F.Text node text) h = h
effect_fits at place s (Effect-F.Pixels node pixels) h = h
effect_fits at place s (Effect-F.Layer node layer) h = h
effect_fits at place s (Effect-F.Hidden node hidden) h = h
effect_fits at place s (Effect-F.Value node text) h = h
effect_fits at place s (Effect-F.Checked node checked) h = h
effect_fits at place s (Effect-F.Focus node) h = h
effect_fits at place s (Effect-F.Prompt kind text answer accepted dismissed) h = prompted at s (record { kind = kind; text = text; answer = answer; accepted = accepted; dismissed = dismissed }) place.prompts h
effect_fits at place s (Effect-F.Go address) h = h
effect_fits at place s (Effect-F.Open address) h = h
effect_fits at place s (Effect-F.After ms effects) h = started at s ms effects place.afters (nat_lt (length s.pending) max_timers) (nat_lt (at.first + s.asked.made) last_moment) refl h

effects_fit : (at : At) (place : Place) (s : Scene) (es : List Effect) → Fits at s → Fits at (effects_on at place s es)
effects_fit at place s [] h = h
effects_fit at place s (e ∷ es) h = effects_fit at place (effect_on at place s e) es (effect_fits at place s (out-Effect e) h)

pub dispatch_fits : (handlers : List Handlers) (at : At) (event : Event) (s : Scene) → Fits at s → Fits at (dispatched handlers at event s)
dispatch_fits handlers at event s h =
    effects_fit at anywhere (record s { log = logged (line event) s.log }) (effects_along handlers (kind_of event) (event_path s.rows (kind_of event) (target_of event))) h

pub apply_fits : (at : At) (s : Scene) (es : List Effect) → Fits at s → Fits at (effects_on at anywhere s es)
apply_fits at s es h = effects_fit at anywhere s es h

-- ---- where no timer may be started, none is pending that wasn't, and none is made

pub record IsQuiet (old new : Scene) : Type 0 where
  pub pending : new.pending ≡ old.pending
  pub made : new.asked.made ≡ old.asked.made

quiet : (s : Scene) → IsQuiet s s
quiet s = record { pending = refl; made = refl }

quiet_prompt : (s : Scene) (prompt : Prompt) (b : Bool) → IsQuiet s (if b then asking s prompt else s)
quiet_prompt s prompt true = record { pending = refl; made = refl }
quiet_prompt s prompt false = quiet s

quiet_after : (s started : Scene) (afters has : Bool) → afters ≡ false → IsQuiet s (if afters && has then started else s)
quiet_after s started true has none = absurd (let e : true ≡ false = none in cc)
quiet_after s started false has none = quiet s

quiet_case : (at : At) (place : Place) (s : Scene) (e : Effect-F Effect) → place.afters ≡ false → IsQuiet s (effect_case at place s e)
quiet_case at place s (Effect-F.Remove node) none = record { pending = refl; made = refl }
quiet_case at place s (Effect-F.Insert node parent under) none = record { pending = refl; made = refl }
quiet_case at place s (Effect-F.Attr node name value) none = record { pending = refl; made = refl }
quiet_case at place s (Effect-F.Text node text) none = record { pending = refl; made = refl }
quiet_case at place s (Effect-F.Pixels node pixels) none = record { pending = refl; made = refl }
quiet_case at place s (Effect-F.Layer node layer) none = record { pending = refl; made = refl }
quiet_case at place s (Effect-F.Hidden node hidden) none = record { pending = refl; made = refl }
quiet_case at place s (Effect-F.Value node text) none = record { pending = refl; made = refl }
quiet_case at place s (Effect-F.Checked node checked) none = record { pending = refl; made = refl }
quiet_case at place s (Effect-F.Focus node) none = record { pending = refl; made = refl }
quiet_case at place s (Effect-F.Prompt kind text answer accepted dismissed) none =
    quiet_prompt s (record { kind = kind; text = text; answer = answer; accepted = accepted; dismissed = dismissed }) place.prompts
quiet_case at place s (Effect-F.Go address) none = record { pending = refl; made = refl }
quiet_case at place s (Effect-F.Open address) none = record { pending = refl; made = refl }
quiet_case at place s (Effect-F.After ms effects) none = quiet_after s (starting at s ms effects) place.afters (has_timer at s) none

pub quiet_effects : (at : At) (place : Place) (s : Scene) (es : List Effect) → place.afters ≡ false → IsQuiet s (effects_on at place s es)
quiet_effects at place s [] none = quiet s
quiet_effects at place s (e ∷ es) none =
    let first = quiet_case at place s (out-Effect e) none in
    let rest = quiet_effects at place (effect_on at place s e) es none in
    record { pending = rest.pending ∙ first.pending; made = rest.made ∙ first.made }

pub run_made : (moment : ℕ) (s : Scene) (pending : List Timer) → (due_run moment s pending).asked.made ≡ s.asked.made
run_made moment s [] = refl
run_made moment s (timer ∷ timers) = (quiet_effects (record { now = moment; first = 0 }) timed (record s { pending = timers }) timer.1 refl).made

pub closing_made : (now : ℕ) (prompt : Prompt) (accepted : Bool) (s : Scene) → (prompt_closed now prompt accepted s).asked.made ≡ s.asked.made
closing_made now prompt accepted s =
    (quiet_effects (record { now = now; first = 0 }) answering (record s { log = logged (closing_line prompt accepted) s.log }) (closing_effects prompt accepted) refl).made
