-- The ranges of what effects say, and where they may stand in one another.
use Rattle.std.specs.Prelude.{ℕ, ℤ, ◌^◌, pos, int_le, unsigned_abs, Bool, true, ◌&&◌, false, nat_le, List, Option, Some, None}
use Rattle.std.specs.List.{list_all}
use Rattle.page_engine.specs.declared.effect.Effect.{Effect, fold-Effect}
use Rattle.page_engine.specs.declared.effect.Effect.TheOpen.{Effect-F}
use Rattle.page_tree.specs.declared.geometry.PixelBox.{PixelBox}
use Rattle.page_engine.specs.declared.place.Place.{Place}

-- in the list of a handler or of a script
abbrev pub anywhere : Place
anywhere = record { afters = true; prompts = true }

-- in the list of a timer or of an `after`
abbrev pub timed : Place
timed = record { afters = false; prompts = true }

-- in the lists of a prompt
abbrev pub answering : Place
answering = record { afters = false; prompts = false }

-- a number within plus or minus so much
abbrev pub is_within : ℕ → ℤ → Bool
is_within most z = nat_le (unsigned_abs z) most

-- a number from 0 to so much
abbrev pub is_up_to : ℕ → ℤ → Bool
is_up_to most z = int_le (pos 0) z && int_le z (pos most)

-- milliseconds that a timer may wait
abbrev pub is_wait : ℕ → Bool
is_wait ms = nat_le 1 ms && nat_le ms (2 ^ 40)

abbrev pub is_layer : ℤ → Bool
is_layer layer = is_within 1000 layer

-- a box that starts within a million pixels and is at most as large
abbrev pub is_box : PixelBox → Bool
is_box pixels = is_within 1000000 pixels.x && (is_within 1000000 pixels.y && (is_up_to 1000000 pixels.w && is_up_to 1000000 pixels.h))

abbrev pub is_box_or_none : Option PixelBox → Bool
is_box_or_none None = true
is_box_or_none (Some pixels) = is_box pixels

-- one effect at a place, where it is told of each list inside whether it fits at a place
abbrev pub fits_step : Effect-F (Place → Bool) → Place → Bool
fits_step (Effect-F.Remove node) place = true
fits_step (Effect-F.Insert node parent at) place = true
fits_step (Effect-F.Attr node name value) place = true
fits_step (Effect-F.Text node text) place = true
fits_step (Effect-F.Pixels node pixels) place = is_box_or_none pixels
fits_step (Effect-F.Layer node layer) place = is_layer layer
fits_step (Effect-F.Hidden node hidden) place = true
fits_step (Effect-F.Value node text) place = true
fits_step (Effect-F.Checked node checked) place = true
fits_step (Effect-F.Focus node) place = true
fits_step (Effect-F.Prompt kind text answer accepted dismissed) place = place.prompts && (list_all (λ fits. fits answering) accepted && list_all (λ fits. fits answering) dismissed)
fits_step (Effect-F.Go address) place = true
fits_step (Effect-F.Open address) place = true
fits_step (Effect-F.After ms effects) place = place.afters && (is_wait ms && list_all (λ fits. fits timed) effects)

-- an effect that may stand at that place
abbrev pub fits_at : Effect → Place → Bool
fits_at = fold-Effect (Place → Bool) fits_step

-- effects that may all stand at that place
abbrev pub fit_at : Place → List Effect → Bool
fit_at place effects = list_all (λ e. fits_at e place) effects
