-- The effects of a list that is made of others, one part after another.
use Rattle.std.proofs.Common.{◌≡◌, ℕ, ◌+◌, ◌-◌, ◌<◌, Option, Some, List, [], ◌∷◌, ◌++◌, length, drop, get_or, refl, sym, ap, ◌∙◌}
use Rattle.std.specs.Prelude.{if◌then◌else◌}
use Rattle.std.proofs.lemmas.List.{at_drop_more, append_assoc}
use Rattle.page_tree.specs.Places.{up_of, chain}
use Rattle.page_tree.proofs.Chains.{chain_up}
use Rattle.page_engine.specs.Dispatch.{Handlers, effects_for, effects_at, effects_along}
use Rattle.page_engine.specs.Effects.{effect_on, effects_on}
use Rattle.page_engine.specs.Fitting.{anywhere}
use Rattle.page_engine.specs.Kinds.{is_same_kind}
use Rattle.page_engine.specs.Scene.{Scene}
use Rattle.page_engine.specs.declared.at.At.{At}
use Rattle.page_engine.specs.declared.effect.Effect.{Effect}
use Rattle.page_engine.specs.declared.event.EventKind.{EventKind}
use Rattle.page_engine.specs.declared.place.Place.{Place}

pub effects_on-append : (at : At) (place : Place) (s : Scene) (es fs : List Effect) → effects_on at place s (es ++ fs) ≡ effects_on at place (effects_on at place s es) fs
effects_on-append at place s [] fs = refl
effects_on-append at place s (e ∷ es) fs = effects_on-append at place (effect_on at place s e) es fs

module _ (at : At) (kind : EventKind) (s next : Scene) where
  -- one node of a path
  pub along_step : (handlers : List Handlers) (path : List ℕ) (i n : ℕ) → i < length path → n ≡ get_or path i n → next ≡ effects_on at anywhere s (effects_at handlers kind n)
      → effects_on at anywhere next (effects_along handlers kind (drop (i + 1) path)) ≡ effects_on at anywhere s (effects_along handlers kind (drop i path))
  along_step handlers path i n within read is =
      let rest = effects_along handlers kind (drop (i + 1) path) in
      ap (λ t. effects_on at anywhere t rest) is
      ∙ sym (effects_on-append at anywhere s (effects_at handlers kind n) rest)
      ∙ ap (λ m. effects_on at anywhere s (effects_at handlers kind m ++ rest)) read
      ∙ sym (at_drop_more (λ ns. effects_on at anywhere s (effects_along handlers kind ns)) path i n within)

  -- one handler of a node
  pub handler_step : (handlers : Handlers) (i : ℕ) (h : EventKind × List Effect) → i < length handlers → h ≡ get_or handlers i h → next ≡ effects_on at anywhere s (if is_same_kind h.0 kind then h.1 else [])
      → effects_on at anywhere next (effects_for kind (drop (i + 1) handlers)) ≡ effects_on at anywhere s (effects_for kind (drop i handlers))
  handler_step handlers i h within read is =
      let rest = effects_for kind (drop (i + 1) handlers) in
      ap (λ t. effects_on at anywhere t rest) is
      ∙ sym (effects_on-append at anywhere s (if is_same_kind h.0 kind then h.1 else []) rest)
      ∙ ap (λ (g : EventKind × List Effect). effects_on at anywhere s ((if is_same_kind g.0 kind then g.1 else []) ++ rest)) read
      ∙ sym (at_drop_more (λ (hs : Handlers). effects_on at anywhere s (effects_for kind hs)) handlers i h within)

-- one step up a lineage
pub lineage_step : (nodes next all : List ℕ) (left i : ℕ) (ups : List (Option ℕ)) (n p : ℕ) → i < left → up_of ups n ≡ Some p → next ≡ nodes ++ n ∷ [] → nodes ++ chain (left - i) ups n ≡ all → next ++ chain (left - (i + 1)) ups p ≡ all
lineage_step nodes next all left i ups n p within up is here =
    ap (λ (ns : List ℕ). ns ++ chain (left - (i + 1)) ups p) is
    ∙ append_assoc nodes (n ∷ []) (chain (left - (i + 1)) ups p)
    ∙ ap (λ (ns : List ℕ). nodes ++ ns) (sym (chain_up left i ups n p within up)) ∙ here
