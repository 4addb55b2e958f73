-- The page of a dozen nodes keeps the rules.
use Rattle.std.proofs.Common.{◌≡◌, true, false, List, [], ◌∷◌, ◌++◌, Some, None, pos, codes, map, refl, sym, subst, arith, rules}
use Rattle.page_tree.specs.Places.{all_shallow, chain}
use Rattle.page_engine.specs.BuiltIn.{an_element, a_text, a_box}
use Rattle.std.specs.List.{list_all}
use Rattle.page_engine.specs.Fitting.{anywhere, timed, fits_at}
use Rattle.page_engine.specs.Pages.{IsLawfulPage, is_timer}
use Rattle.page_engine.specs.declared.effect.Effect.{the_lemmas}
use Rattle.page_engine.specs.declared.effect.Effect.TheVariants.{Layer, Hidden}
use Rattle.page_engine.specs.declared.event.EventKind.TheVariants.{Click}
use Rattle.page_engine.specs.declared.page_def.NodeDef.{NodeDef}
use Rattle.page_engine.specs.declared.page_def.NodeKind.TheVariants.{Shadow}
use Rattle.page_engine.specs.declared.page_def.PageDef.{PageDef}
use Rattle.page_engine.proofs.LawfulPages.{are_nodes, lawful_nodes}

abbrev pub frame : List NodeDef
frame = an_element (codes "html") None [] None ∷ an_element (codes "body") (Some 0) [] None ∷ (record (an_element (codes "div") (Some 1) ((codes "id", codes "main") ∷ []) (a_box 1 2 30 40)) { layer = pos 3; hidden = true }) ∷ []

abbrev pub shadow : List NodeDef
shadow = (record { kind = Shadow; up = Some 2; attrs = []; pixels = None; layer = pos 0; hidden = false; on = [] }) ∷ (record (an_element (codes "b") (Some 3) [] None) { on = (Click, Layer 2 (pos 5) ∷ []) ∷ [] }) ∷ []

abbrev pub input : List NodeDef
input = an_element (codes "input") (Some 1) ((codes "value", codes "v") ∷ (codes "checked", codes "no") ∷ []) None ∷ []

abbrev pub textarea : List NodeDef
textarea = an_element (codes "textarea") (Some 1) [] None ∷ []

abbrev pub texts : List NodeDef
texts = a_text (codes "ab") 6 ∷ a_text (codes "cd") 6 ∷ []

abbrev pub editable : List NodeDef
editable = an_element (codes "p") None ((codes "contenteditable", codes "true") ∷ []) None ∷ []

abbrev pub editable_text : List NodeDef
editable_text = a_text (codes "x") 9 ∷ []

abbrev pub option : List NodeDef
option = an_element (codes "option") (Some 1) ((codes "selected", codes "no") ∷ []) None ∷ []

abbrev pub dozen : List NodeDef
dozen = ((((((frame ++ shadow) ++ input) ++ textarea) ++ texts) ++ editable) ++ editable_text) ++ option

abbrev pub a_dozen : PageDef
a_dozen = record { address = codes "http://page.test/"; nodes = dozen; timers = (record { at = 40; effects = Hidden 2 false ∷ [] }) ∷ []; book = []; eager = 0; load = 0 }

shallow : all_shallow (map (λ d. d.up) dozen) ≡ true
unfolding chain
shallow = refl

layer_fits : fits_at (Layer 2 (pos 5)) anywhere ≡ true
layer_fits = search (rules, the_lemmas)

hidden_fits : fits_at (Hidden 2 false) timed ≡ true
hidden_fits = search (rules, the_lemmas)

kept : are_nodes [] dozen ≡ true
kept = rw layer_fits refl

timers : list_all is_timer a_dozen.timers ≡ true
timers = rw hidden_fits refl

lawful : IsLawfulPage a_dozen
lawful = record { nodes = lawful_nodes dozen (omega arith) refl kept shallow; few_timers = omega arith; timers = timers; book = refl; eager = omega arith; load = omega arith }

pub lawful_dozen : (page : PageDef) → page ≡ a_dozen → IsLawfulPage page
lawful_dozen page is = subst IsLawfulPage (sym is) lawful
