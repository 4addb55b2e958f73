-- What fits, at the effects that have lists inside.
use Rattle.std.proofs.Common.{◌≡◌, ℕ, Bool, ◌&&◌, List, map, rules, ap, ◌∙◌}
use Rattle.std.specs.List.{list_all}
use Rattle.std.proofs.lemmas.List.Folds.{list_all-map}
use Rattle.page_engine.specs.Fitting.{timed, answering, is_wait, fits_at, fit_at}
use Rattle.page_engine.specs.declared.place.Place.{Place}
use Rattle.page_engine.specs.declared.effect.PromptKind.{PromptKind}
use Rattle.page_engine.specs.declared.effect.Effect.{Effect, the_lemmas}
use Rattle.page_engine.specs.declared.effect.Effect.TheVariants as effect

inside : (place : Place) (effects : List Effect) → list_all (λ (f : Place → Bool). f place) (map fits_at effects) ≡ fit_at place effects
inside place effects = list_all-map (λ (f : Place → Bool). f place) fits_at effects

pub fits-Prompt : (kind : PromptKind) (text answer : List ℕ) (accepted dismissed : List Effect) (place : Place)
    → fits_at (effect.Prompt kind text answer accepted dismissed) place ≡ (place.prompts && (fit_at answering accepted && fit_at answering dismissed))
fits-Prompt kind text answer accepted dismissed place =
    let e : fits_at (effect.Prompt kind text answer accepted dismissed) place ≡ (place.prompts && (list_all (λ (f : Place → Bool). f answering) (map fits_at accepted) && list_all (λ (f : Place → Bool). f answering) (map fits_at dismissed))) = search (rules, the_lemmas) in
    e ∙ ap (λ b. place.prompts && (b && list_all (λ (f : Place → Bool). f answering) (map fits_at dismissed))) (inside answering accepted) ∙ ap (λ b. place.prompts && (fit_at answering accepted && b)) (inside answering dismissed)

pub fits-After : (ms : ℕ) (effects : List Effect) (place : Place) → fits_at (effect.After ms effects) place ≡ (place.afters && (is_wait ms && fit_at timed effects))
fits-After ms effects place =
    let e : fits_at (effect.After ms effects) place ≡ (place.afters && (is_wait ms && list_all (λ (f : Place → Bool). f timed) (map fits_at effects))) = search (rules, the_lemmas) in
    e ∙ ap (λ b. place.afters && (is_wait ms && b)) (inside timed effects)

pub ruleset fits_inside = (fits-Prompt, fits-After)
