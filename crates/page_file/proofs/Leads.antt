-- Where the addresses of effects lead, at the effects that have lists inside; and all that one list after another has.
use Rattle.std.proofs.Common.{◌≡◌, ℕ, Bool, ◌&&◌, List, [], ◌∷◌, ◌++◌, Option, map, rules, refl, sym, ap, ◌∙◌}
use Rattle.std.specs.List.{list_all, flat_map}
use Rattle.std.proofs.lemmas.List.Folds.{list_all-append}
use Rattle.std.proofs.lemmas.List.Concat.{flat_map-cons}
use Rattle.url.specs.Parts.{Parts}
use Rattle.page_engine.specs.Links.{leads_of}
use Rattle.page_engine.specs.declared.effect.PromptKind.{PromptKind}
use Rattle.page_engine.specs.declared.effect.Effect.{Effect, the_lemmas}
use Rattle.page_engine.specs.declared.effect.Effect.TheVariants as effect
use Rattle.page_engine.specs.declared.page_def.PageDef.{PageDef}
use Rattle.page_file.specs.Leading.{leads_on, all_lead, effects_lead}

module _ {X A : Type 0} (f : X → List A) where
  joined_map : (xs : List X) → flat_map (λ (ys : List A). ys) (map f xs) ≡ flat_map f xs
  joined_map [] = refl
  joined_map (x ∷ xs) = flat_map-cons (λ (ys : List A). ys) (f x) (map f xs) ∙ ap (λ rest. f x ++ rest) (joined_map xs) ∙ sym (flat_map-cons f x xs)

  pub all_joined : (p : A → Bool) (xs : List X) → list_all p (flat_map f xs) ≡ list_all (λ x. list_all p (f x)) xs
  all_joined p [] = refl
  all_joined p (x ∷ xs) = ap (list_all p) (flat_map-cons f x xs) ∙ list_all-append p (f x) (flat_map f xs) ∙ ap (λ b. list_all p (f x) && b) (all_joined p xs)

module _ (pages : List PageDef) (base : Option Parts) where
  inside : (effects : List Effect) → all_lead pages base (flat_map (λ (texts : List (List ℕ)). texts) (map leads_of effects)) ≡ effects_lead pages base effects
  inside effects = ap (all_lead pages base) (joined_map leads_of effects) ∙ all_joined leads_of (leads_on pages base) effects

  pub leads-After : (ms : ℕ) (effects : List Effect) → all_lead pages base (leads_of (effect.After ms effects)) ≡ effects_lead pages base effects
  leads-After ms effects =
      let e : leads_of (effect.After ms effects) ≡ flat_map (λ (texts : List (List ℕ)). texts) (map leads_of effects) = search (rules, the_lemmas) in
      ap (all_lead pages base) e ∙ inside effects

  pub leads-Prompt : (kind : PromptKind) (text answer : List ℕ) (accepted dismissed : List Effect)
      → all_lead pages base (leads_of (effect.Prompt kind text answer accepted dismissed)) ≡ (effects_lead pages base accepted && effects_lead pages base dismissed)
  leads-Prompt kind text answer accepted dismissed =
      let e : leads_of (effect.Prompt kind text answer accepted dismissed) ≡ flat_map (λ (texts : List (List ℕ)). texts) (map leads_of accepted) ++ flat_map (λ (texts : List (List ℕ)). texts) (map leads_of dismissed) = search (rules, the_lemmas) in
      ap (all_lead pages base) e
      ∙ list_all-append (leads_on pages base) (flat_map (λ (texts : List (List ℕ)). texts) (map leads_of accepted)) (flat_map (λ (texts : List (List ℕ)). texts) (map leads_of dismissed))
      ∙ ap (λ b. b && all_lead pages base (flat_map (λ (texts : List (List ℕ)). texts) (map leads_of dismissed))) (inside accepted)
      ∙ ap (λ b. effects_lead pages base accepted && b) (inside dismissed)

pub ruleset leads_inside = (leads-After, leads-Prompt)
