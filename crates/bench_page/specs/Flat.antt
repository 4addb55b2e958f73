-- The page that is timed: so many fields in one parent, and so many timers.
use Rattle.std.specs.Prelude.{ℕ, zero, suc, pos, List, [], ◌∷◌, Some, None, codes}
use Rattle.page_engine.specs.BuiltIn.{an_element}
use Rattle.page_engine.specs.declared.effect.Effect.TheVariants.{Layer}
use Rattle.page_engine.specs.declared.page_def.NodeDef.{NodeDef}
use Rattle.page_engine.specs.declared.page_def.PageDef.{PageDef}
use Rattle.page_engine.specs.declared.page_def.TimerDef.{TimerDef}

abbrev pub repeated : {X : Type 0} → ℕ → X → List X
repeated zero x = []
repeated (suc n) x = x ∷ repeated n x

abbrev pub a_root : NodeDef
a_root = an_element (codes "html") None [] None

abbrev pub a_field : NodeDef
a_field = an_element (codes "input") (Some 0) ((codes "value", codes "v") ∷ []) None

abbrev pub a_timer : TimerDef
a_timer = record { at = 5; effects = Layer 1 (pos 2) ∷ [] }

abbrev pub flat_page : ℕ → ℕ → PageDef
flat_page fields timers = record { address = codes "http://page.test/"; nodes = a_root ∷ repeated fields a_field; timers = repeated timers a_timer; book = []; eager = 0; load = 0 }
