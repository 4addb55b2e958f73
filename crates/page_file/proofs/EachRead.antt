-- A list of effects that is read one by one, and what fits at the effects that have lists inside.
use Rattle.std.proofs.Common.{◌≡◌, ℕ, ◌+◌, ◌<◌, Bool, true, false, ◌&&◌, List, [], ◌∷◌, ◌++◌, Option, Some, length, get_or, take, refl, ap, sym, ◌∙◌, rules}
use Rattle.std.proofs.lemmas.Grind.{take_at_read}
use Rattle.std.proofs.lemmas.List.Folds.{list_all_at}
use Rattle.page_engine.proofs.Fits.{fits-Prompt, fits-After}
use Rattle.page_engine.specs.Fitting.{timed, answering, is_within, is_up_to, is_wait, is_box, fits_at, fit_at}
use Rattle.page_engine.specs.declared.effect.Effect.{Effect}
use Rattle.page_engine.specs.declared.effect.Effect.TheVariants as effect
use Rattle.page_engine.specs.declared.effect.PromptKind.{PromptKind}
use Rattle.page_engine.specs.declared.place.Place.{Place}
use Rattle.page_file.proofs.EachOf.{each_push}
use Rattle.page_file.proofs.Tests.{first_of, second_of}
use Rattle.page_file.specs.Members.{each_of}
use Rattle.page_file.specs.Spelled.{all_in, plain_row, timed_row, effect_row}
use Rattle.page_file.specs.declared.word.Word.{Word}
use Rattle.page_file.specs.declared.word.Word.TheVariants as word
use Rattle.page_tree.specs.declared.geometry.PixelBox.{PixelBox}
use Rattle.wd_json.specs.declared.value.Json.{Json, the_lemmas}
use Rattle.wd_json.specs.declared.value.Json.TheVariants as json

pub ruleset fits_inside = (fits-Prompt, fits-After)

pub timed_plain : (w : Word) (values : List Json) → (w ≡ word.Prompt → ⊥) → plain_row w values ≡ timed_row w values
timed_plain word.Prompt values h = absurd (h refl)
timed_plain w values h = refl

pub effect_timed : (w : Word) (values : List Json) → (w ≡ word.After → ⊥) → timed_row w values ≡ effect_row w values
effect_timed word.After values h = absurd (h refl)
effect_timed w values h = refl

if_not_false : (b c : Bool) → (b ≡ false → c ≡ false) → c ≡ true → b ≡ true
if_not_false true c k h = refl
if_not_false false c k h = sym (k refl) ∙ h

fits_each : (place : Place) (es : List Effect) (i : ℕ) (d : Effect) → i < length es → fit_at place es ≡ true → fits_at (get_or es i d) place ≡ true
fits_each place es i d h = if_not_false (fits_at (get_or es i d) place) (fit_at place es) (list_all_at (λ e. fits_at e place) es i d h)

-- one value more, where the list fits at a place
pub fit_more : (place : Place) (f : Json → Option Effect) (vs : List Json) (v : Json) (es : List Effect) (i : ℕ) (e : Effect)
    → i < length es → e ≡ get_or es i e → (fit_at place es ≡ true → each_of f vs ≡ Some (take i es)) → (fits_at e place ≡ true → f v ≡ Some e)
    → fit_at place es ≡ true → each_of f (vs ++ v ∷ []) ≡ Some (take (i + 1) es)
fit_more place f vs v es i e h is g k fit =
    each_push f vs v (take i es) e (g fit) (k (ap (λ (x : Effect). fits_at x place) is ∙ fits_each place es i e h fit))
    ∙ ap (λ (x : Effect). Some (take i es ++ x ∷ [])) is
    ∙ ap Some (sym (take_at_read es i e h).1)

pub all_in_list : (f : Json → Option Effect) (vs : List Json) → all_in f (json.List vs) ≡ each_of f vs
all_in_list f vs = search (rules, the_lemmas)

-- ---- the parts of what fits

pub prompt_parts : (kind : PromptKind) (text answer : List ℕ) (accepted dismissed : List Effect) (place : Place)
    → fits_at (effect.Prompt kind text answer accepted dismissed) place ≡ true
    → (fit_at answering accepted ≡ true) × (fit_at answering dismissed ≡ true)
prompt_parts kind text answer accepted dismissed place h =
    let both = second_of place.prompts (fit_at answering accepted && fit_at answering dismissed) (sym (fits-Prompt kind text answer accepted dismissed place) ∙ h) in
    (first_of (fit_at answering accepted) (fit_at answering dismissed) both, second_of (fit_at answering accepted) (fit_at answering dismissed) both)

pub after_parts : (ms : ℕ) (effects : List Effect) (place : Place)
    → fits_at (effect.After ms effects) place ≡ true → (is_wait ms ≡ true) × (fit_at timed effects ≡ true)
after_parts ms effects place h =
    let both = second_of place.afters (is_wait ms && fit_at timed effects) (sym (fits-After ms effects place) ∙ h) in
    (first_of (is_wait ms) (fit_at timed effects) both, second_of (is_wait ms) (fit_at timed effects) both)

pub box_parts : (pixels : PixelBox) → is_box pixels ≡ true
    → (is_within 1000000 pixels.x ≡ true) × (is_within 1000000 pixels.y ≡ true) × (is_up_to 1000000 pixels.w ≡ true) × (is_up_to 1000000 pixels.h ≡ true)
box_parts pixels h =
    let x = is_within 1000000 pixels.x in
    let y = is_within 1000000 pixels.y in
    let w = is_up_to 1000000 pixels.w in
    let z = is_up_to 1000000 pixels.h in
    let more = second_of x (y && (w && z)) h in
    let last = second_of y (w && z) more in
    (first_of x (y && (w && z)) h, first_of y (w && z) more, first_of w z last, second_of w z last)
