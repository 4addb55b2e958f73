-- A page of twelve nodes and two timers, as a test spells it.
use Rattle.std.specs.Prelude.{pos, List, [], ◌∷◌, ◌++◌, Some, None, false, codes}
use Rattle.page_engine.specs.BuiltIn.{an_element, a_text}
use Rattle.page_engine.specs.declared.effect.Effect.TheVariants.{Remove, After, Layer}
use Rattle.page_engine.specs.declared.event.EventKind.TheVariants.{Click}
use Rattle.page_engine.specs.declared.page_def.NodeDef.{NodeDef}
use Rattle.page_engine.specs.declared.page_def.NodeKind.TheVariants.{Shadow}
use Rattle.page_engine.specs.declared.page_def.PageDef.{PageDef}
use Rattle.page_engine.specs.declared.page_def.TimerDef.{TimerDef}

unfoldable pub head_and_body : List NodeDef
head_and_body =
    an_element (codes "html") None [] None
    ∷ an_element (codes "head") (Some 0) [] None
    ∷ an_element (codes "body") (Some 0) [] None
    ∷ an_element (codes "p") (Some 2) [] None
    ∷ a_text (codes "one") 3 ∷ []

unfoldable pub input_and_div : List NodeDef
input_and_div =
    an_element (codes "input") (Some 2) [] None
    ∷ (record (an_element (codes "div") (Some 2) [] None) { on = (Click, Remove 8 ∷ After 10 [] ∷ []) ∷ [] }) ∷ []

unfoldable pub shadow_tree : List NodeDef
shadow_tree =
    (record { kind = Shadow; up = Some 6; attrs = []; pixels = None; layer = pos 0; hidden = false; on = [] })
    ∷ an_element (codes "b") (Some 7) [] None ∷ []

unfoldable pub em_and_ul : List NodeDef
em_and_ul = an_element (codes "em") None [] None ∷ an_element (codes "ul") (Some 2) [] None ∷ []

unfoldable pub lone_text : List NodeDef
lone_text = (record (a_text (codes "x") 0) { up = None }) ∷ []

abbrev pub twelve : List NodeDef
twelve = (((head_and_body ++ input_and_div) ++ shadow_tree) ++ em_and_ul) ++ lone_text

unfoldable pub timers : List TimerDef
timers = (record { at = 60; effects = Layer 3 (pos 2) ∷ [] }) ∷ (record { at = 40; effects = Layer 3 (pos 1) ∷ [] }) ∷ []

abbrev pub page_of_twelve : PageDef
page_of_twelve = record { address = codes "http://page.test/"; nodes = twelve; timers = timers; book = []; eager = 0; load = 0 }
