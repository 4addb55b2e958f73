-- Where the iframes among some nodes lead, read one node after another.
use Rattle.std.proofs.Common.{◌≡◌, ℕ, ◌+◌, ◌<◌, ◌≤◌, Bool, true, false, List, [], ◌∷◌, ◌++◌, Option, Some, None, length, get_or, drop, ap, ◌∙◌, arith}
use Rattle.std.specs.Prelude.{if◌then◌else◌}
use Rattle.std.specs.List.{flat_map}
use Rattle.std.proofs.lemmas.List.{at_drop_more, at_drop_all, append-nil}
use Rattle.std.proofs.lemmas.List.Concat.{flat_map-cons}
use Rattle.url.specs.Parts.{Parts}
use Rattle.page_engine.specs.Links.{is_frame, source_of, frame_of}
use Rattle.page_engine.specs.declared.page_def.NodeDef.{NodeDef}
use Rattle.page_engine.specs.declared.page_def.PageDef.{PageDef}
use Rattle.page_engine.specs.declared.target.Target.{Target}
use Rattle.page_file.proofs.EachOf.{onto_all, all_next, all_none}
use Rattle.page_file.specs.Leading.{frame_from}
use Rattle.page_file.specs.Members.{each_of}

-- the targets that were read, and those still to be read among these nodes
abbrev pub targets_onto : List PageDef → Option Parts → List Target → List NodeDef → Option (List Target)
targets_onto pages base before nodes = onto_all before (each_of (frame_from pages base) (flat_map frame_of nodes))

module _ (pages : List PageDef) (base : Option Parts) (nodes : List NodeDef) (i : ℕ) (d : NodeDef) (before : List Target) (within : i < length nodes) where
  abbrev onto : List (Option (List ℕ)) → Option (List Target)
  onto sources = onto_all before (each_of (frame_from pages base) sources)

  abbrev frame_if : Bool → List (Option (List ℕ))
  frame_if b = if b then source_of (get_or nodes i d) ∷ [] else []

  split : (b : Bool) → is_frame (get_or nodes i d) ≡ b → targets_onto pages base before (drop i nodes) ≡ onto (frame_if b ++ flat_map frame_of (drop (i + 1) nodes))
  split b is =
      at_drop_more (targets_onto pages base before) nodes i d within
      ∙ ap onto (flat_map-cons frame_of (get_or nodes i d) (drop (i + 1) nodes))
      ∙ ap (λ b. onto (frame_if b ++ flat_map frame_of (drop (i + 1) nodes))) is

  -- a node that is no iframe
  pub other_node : is_frame (get_or nodes i d) ≡ false → targets_onto pages base before (drop i nodes) ≡ targets_onto pages base before (drop (i + 1) nodes)
  other_node is = split false is

  -- an iframe that leads there
  pub frame_there : (t : Target) → is_frame (get_or nodes i d) ≡ true → frame_from pages base (source_of (get_or nodes i d)) ≡ Some t
      → targets_onto pages base before (drop i nodes) ≡ targets_onto pages base (before ++ t ∷ []) (drop (i + 1) nodes)
  frame_there t is leads =
      split true is
      ∙ all_next (frame_from pages base) (source_of (get_or nodes i d) ∷ flat_map frame_of (drop (i + 1) nodes)) 0 None t before (omega arith) leads

  -- an iframe that leads nowhere
  pub frame_nowhere : is_frame (get_or nodes i d) ≡ true → frame_from pages base (source_of (get_or nodes i d)) ≡ None → targets_onto pages base before (drop i nodes) ≡ None
  frame_nowhere is leads =
      split true is
      ∙ all_none (frame_from pages base) (source_of (get_or nodes i d) ∷ flat_map frame_of (drop (i + 1) nodes)) 0 None before (omega arith) leads

pub targets_end : (pages : List PageDef) (base : Option Parts) (nodes : List NodeDef) (i : ℕ) (before : List Target) → length nodes ≤ i → targets_onto pages base before (drop i nodes) ≡ Some before
targets_end pages base nodes i before past = at_drop_all (targets_onto pages base before) nodes i past ∙ ap Some (append-nil before)
