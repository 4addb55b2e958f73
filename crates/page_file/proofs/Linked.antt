-- A page is linked exactly where its iframes lead somewhere, and all its effects do.
use Rattle.std.proofs.Common.{◌≡◌, ℕ, Bool, true, false, ◌&&◌, List, [], ◌∷◌, ◌++◌, Option, Some, None, refl, sym, ap, ◌∙◌}
use Rattle.std.specs.Prelude.{is_some}
use Rattle.std.specs.List.{list_all, flat_map}
use Rattle.std.specs.Option.{option_map, option_and_then}
use Rattle.std.specs.Str.{encode_utf8_all}
use Rattle.std.proofs.lemmas.List.Folds.{list_all-append}
use Rattle.url.specs.Parts.{Parts}
use Rattle.url.specs.Parser.{parse_url}
use Rattle.page_engine.specs.Links.{leads_of, leads_of_all, handler_leads, some_of, frames, leads, parsed, frame_target, is_linked}
use Rattle.page_engine.specs.declared.effect.Effect.{Effect}
use Rattle.page_engine.specs.declared.event.EventKind.{EventKind}
use Rattle.page_engine.specs.declared.page_def.NodeDef.{NodeDef}
use Rattle.page_engine.specs.declared.page_def.PageDef.{PageDef}
use Rattle.page_engine.specs.declared.page_def.TimerDef.{TimerDef}
use Rattle.page_engine.specs.declared.book.BookEntry.{BookEntry}
use Rattle.page_engine.specs.declared.target.Target.{Target}
use Rattle.page_engine.specs.declared.target.Target.TheVariants.{Blank}
use Rattle.page_file.proofs.Leads.{all_joined}
use Rattle.page_file.specs.Leading.{target_from, frame_from, leads_on, all_lead, effects_lead, handlers_lead, page_leads, AreTargetsOf}
use Rattle.page_file.specs.Members.{each_of}

all_same : {X : Type 0} (f g : X → Bool) → ((x : X) → f x ≡ g x) → (xs : List X) → list_all f xs ≡ list_all g xs
all_same f g same [] = refl
all_same f g same (x ∷ xs) = ap (λ b. b && list_all f xs) (same x) ∙ ap (λ b. g x && b) (all_same f g same xs)

each_same : {A B : Type 0} (f g : A → Option B) → ((x : A) → f x ≡ g x) → (xs : List A) → each_of f xs ≡ each_of g xs
each_same f g same [] = refl
each_same {A} {B} f g same (x ∷ xs) =
    ap (λ (o : Option B). option_and_then (λ y. option_map (λ ys. y ∷ ys) (each_of f xs)) o) (same x)
    ∙ ap (λ (rest : Option (List B)). option_and_then (λ y. option_map (λ ys. y ∷ ys) rest) (g x)) (each_same f g same xs)

map_there : {A B : Type 0} (f : A → B) (o : Option A) → is_some (option_map f o) ≡ is_some o
map_there f None = refl
map_there f (Some x) = refl

module _ (pages : List PageDef) (base : Option Parts) where
  one_there : (t : Option Target) (rest : Option (List Target)) → (is_some t && is_some rest) ≡ is_some (option_and_then (λ y. option_map (λ ys. y ∷ ys) rest) t)
  one_there None rest = refl
  one_there (Some y) rest = sym (map_there (λ ys. y ∷ ys) rest)

  frames_there : (sources : List (Option (List ℕ))) → all_lead pages base (some_of sources) ≡ is_some (each_of (frame_from pages base) sources)
  frames_there [] = refl
  frames_there (None ∷ rest) = frames_there rest ∙ sym (map_there (λ ys. Blank ∷ ys) (each_of (frame_from pages base) rest))
  frames_there (Some source ∷ rest) =
      ap (λ b. leads_on pages base source && b) (frames_there rest) ∙ one_there (target_from pages base source) (each_of (frame_from pages base) rest)

  lists_lead : {X : Type 0} (effects : X → List Effect) (xs : List X) → all_lead pages base (flat_map (λ x. leads_of_all (effects x)) xs) ≡ list_all (λ x. effects_lead pages base (effects x)) xs
  lists_lead effects xs =
      all_joined (λ x. leads_of_all (effects x)) (leads_on pages base) xs
      ∙ all_same (λ x. all_lead pages base (leads_of_all (effects x))) (λ x. effects_lead pages base (effects x)) (λ x. all_joined leads_of (leads_on pages base) (effects x)) xs

  nodes_there : (nodes : List NodeDef) → all_lead pages base (flat_map handler_leads nodes) ≡ list_all (λ d. handlers_lead pages base d.on) nodes
  nodes_there nodes =
      all_joined handler_leads (leads_on pages base) nodes
      ∙ all_same (λ d. all_lead pages base (handler_leads d)) (λ d. handlers_lead pages base d.on) (λ d. lists_lead (λ (h : EventKind × List Effect). h.1) d.on) nodes

  all_leads : (page : PageDef) → all_lead pages base (leads page) ≡ (is_some (each_of (frame_from pages base) (frames page)) && page_leads pages base page)
  all_leads page =
      let nodes = flat_map handler_leads page.nodes in
      let timers = flat_map (λ (t : TimerDef). leads_of_all t.effects) page.timers in
      let book = flat_map (λ (e : BookEntry). leads_of_all e.effects) page.book in
      let p = leads_on pages base in
      list_all-append p (some_of (frames page)) (nodes ++ (timers ++ book))
      ∙ ap (λ b. b && list_all p (nodes ++ (timers ++ book))) (frames_there (frames page))
      ∙ ap (λ b. is_some (each_of (frame_from pages base) (frames page)) && b)
      (list_all-append p nodes (timers ++ book)
      ∙ ap (λ b. b && list_all p (timers ++ book)) (nodes_there page.nodes)
      ∙ ap (λ b. list_all (λ d. handlers_lead pages base d.on) page.nodes && b)
      (list_all-append p timers book
      ∙ ap (λ b. b && list_all p book) (lists_lead (λ (t : TimerDef). t.effects) page.timers)
      ∙ ap (λ b. list_all (λ timer. effects_lead pages base timer.effects) page.timers && b) (lists_lead (λ (e : BookEntry). e.effects) page.book)))

module _ (pages : List PageDef) (page : PageDef) (base : Option Parts) (own : base ≡ parsed (parse_url None (encode_utf8_all page.address))) where
  linked_is : is_linked pages page ≡ (is_some (each_of (frame_from pages base) (frames page)) && page_leads pages base page)
  linked_is = ap (λ (b : Option Parts). all_lead pages b (leads page)) (sym own) ∙ all_leads pages base page

  frame_same : (source : Option (List ℕ)) → frame_from pages base source ≡ frame_target pages page.address source
  frame_same None = refl
  frame_same (Some source) = ap (λ (b : Option Parts). target_from pages b source) own

  pub frame_lost : each_of (frame_from pages base) (frames page) ≡ None → is_linked pages page ≡ false
  frame_lost none = linked_is ∙ ap (λ (o : Option (List Target)). is_some o && page_leads pages base page) none

  pub effect_lost : (targets : List Target) → each_of (frame_from pages base) (frames page) ≡ Some targets → page_leads pages base page ≡ false → is_linked pages page ≡ false
  effect_lost targets there lost = linked_is ∙ ap (λ (o : Option (List Target)). is_some o && page_leads pages base page) there ∙ lost

  pub all_found : (targets : List Target) → each_of (frame_from pages base) (frames page) ≡ Some targets → page_leads pages base page ≡ true → AreTargetsOf pages page targets
  all_found targets there all = record {
    linked = linked_is ∙ ap (λ (o : Option (List Target)). is_some o && page_leads pages base page) there ∙ all;
    frames = sym (each_same (frame_from pages base) (frame_target pages page.address) frame_same (frames page)) ∙ there;
  }
