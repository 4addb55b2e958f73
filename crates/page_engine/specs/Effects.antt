-- What an effect changes: one case for each row of the table of effects. An effect that names a node
-- or a field that isn't there changes nothing.
use Rattle.std.specs.Prelude.{ℕ, ◌+◌, Bool, not, ◌&&◌, nat_lt, List, [], ◌∷◌, ◌++◌, Option, Some, None, length, if◌then◌else◌}
use Rattle.page_tree.specs.Faults.{move_refusal}
use Rattle.page_tree.specs.Rows.{Rows, count, is_element, is_text, is_shadow, moved, detached, with_attribute, with_text, with_value, with_pixels, with_layer, with_hidden, with_checked}
use Rattle.page_tree.specs.declared.fault.TreeFault.{TreeFault}
use Rattle.waits.specs.Moments.{last_moment, plus}
use Rattle.page_engine.specs.Pages.{max_timers}
use Rattle.page_engine.specs.Scene.{Scene}
use Rattle.page_engine.specs.Timers.{with_timer}
use Rattle.page_engine.specs.declared.at.At.{At}
use Rattle.page_engine.specs.declared.effect.Effect.{Effect, out-Effect}
use Rattle.page_engine.specs.declared.effect.Effect.TheOpen.{Effect-F}
use Rattle.page_engine.specs.declared.effect.Prompt.{Prompt}
use Rattle.page_engine.specs.declared.place.Place.{Place}

-- ---- rows

-- the node is there, and is neither the root nor a shadow root
abbrev pub is_movable : Rows → ℕ → Bool
is_movable rows n = nat_lt 0 n && (nat_lt n (count rows) && not (is_shadow rows n))

-- the node is there and is no text
abbrev pub is_holder : Rows → ℕ → Bool
is_holder rows n = nat_lt n (count rows) && not (is_text rows n)

abbrev pub removed : Rows → ℕ → Rows
removed rows n = if is_movable rows n then detached rows n else rows

abbrev pub unless : Option TreeFault → Rows → Rows → Rows
unless None rows new = new
unless (Some fault) rows new = rows

-- as a move of the tree; nothing where that is refused
abbrev pub inserted : Rows → ℕ → ℕ → ℕ → Rows
inserted rows n p place = if is_movable rows n && is_holder rows p then unless (move_refusal rows n p place) rows (moved rows n p place) else rows

-- the change of an element, and of a text
abbrev pub of_element : Rows → ℕ → Rows → Rows
of_element rows n new = if is_element rows n then new else rows

abbrev pub of_text : Rows → ℕ → Rows → Rows
of_text rows n new = if is_text rows n then new else rows

abbrev pub with_rows : Scene → Rows → Scene
with_rows s rows = record s { rows = rows }

-- ---- what is asked of the world

abbrev pub or_else : Option Prompt → Prompt → Option Prompt
or_else None prompt = Some prompt
or_else (Some first) prompt = Some first

-- the first prompt that was asked for is the one
abbrev pub asking : Scene → Prompt → Scene
asking s prompt = record s { asked = record s.asked { prompt = or_else s.asked.prompt prompt } }

-- the last navigation that was asked for is the one
abbrev pub going : Scene → List ℕ → Scene
going s address = record s { asked = record s.asked { go = Some address } }

abbrev pub opening : Scene → List ℕ → Scene
opening s address = record s { asked = record s.asked { opens = s.asked.opens ++ address ∷ [] } }

-- ---- timers

-- there is room for one more, and a number for it
abbrev pub has_timer : At → Scene → Bool
has_timer at s = nat_lt (length s.pending) max_timers && nat_lt (at.first + s.asked.made) last_moment

-- a timer more, due that many milliseconds later
abbrev pub starting : At → Scene → ℕ → List Effect → Scene
starting at s ms effects = record s {
  pending = with_timer ((plus at.now ms, at.first + s.asked.made), effects) s.pending;
  asked = record s.asked { made = s.asked.made + 1 };
}

-- ---- focus

-- The focus comes with element interaction: its one place is here, and it changes nothing yet.
abbrev pub focusing : Scene → ℕ → Scene
focusing s n = s

-- ---- an effect at a place of a list, by cases

abbrev pub effect_case : At → Place → Scene → Effect-F Effect → Scene
effect_case at place s (Effect-F.Remove node) = with_rows s (removed s.rows node)
effect_case at place s (Effect-F.Insert node parent under) = with_rows s (inserted s.rows node parent under)
effect_case at place s (Effect-F.Attr node name value) = with_rows s (of_element s.rows node (with_attribute s.rows node name value))
effect_case at place s (Effect-F.Text node text) = with_rows s (of_text s.rows node (with_text s.rows node text))
effect_case at place s (Effect-F.Pixels node pixels) = with_rows s (of_element s.rows node (with_pixels s.rows node pixels))
effect_case at place s (Effect-F.Layer node layer) = with_rows s (of_element s.rows node (with_layer s.rows node layer))
effect_case at place s (Effect-F.Hidden node hidden) = with_rows s (of_element s.rows node (with_hidden s.rows node hidden))
effect_case at place s (Effect-F.Value node text) = with_rows s (of_element s.rows node (with_value s.rows node text))
effect_case at place s (Effect-F.Checked node checked) = with_rows s (of_element s.rows node (with_checked s.rows node checked))
effect_case at place s (Effect-F.Focus node) = focusing s node
effect_case at place s (Effect-F.Prompt kind text answer accepted dismissed) =
    if place.prompts then asking s (record { kind = kind; text = text; answer = answer; accepted = accepted; dismissed = dismissed }) else s
effect_case at place s (Effect-F.Go address) = going s address
effect_case at place s (Effect-F.Open address) = opening s address
effect_case at place s (Effect-F.After ms effects) = if place.afters && has_timer at s then starting at s ms effects else s

abbrev pub effect_on : At → Place → Scene → Effect → Scene
effect_on at place s e = effect_case at place s (out-Effect e)

-- the effects of a list, in order
abbrev pub effects_on : At → Place → Scene → List Effect → Scene
effects_on at place s [] = s
effects_on at place s (e ∷ es) = effects_on at place (effect_on at place s e) es
