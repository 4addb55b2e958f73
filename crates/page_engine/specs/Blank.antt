-- `about:blank`, which is in every site: html with head and body, without boxes and timers.
use Rattle.std.specs.Prelude.{List, [], ◌∷◌, None, Some, codes}
use Rattle.page_engine.specs.BuiltIn.{an_element}
use Rattle.page_engine.specs.Links.{blank}
use Rattle.page_engine.specs.declared.page_def.NodeDef.{NodeDef}
use Rattle.page_engine.specs.declared.page_def.PageDef.{PageDef}

unfoldable pub blank_elements : List NodeDef
blank_elements = an_element (codes "html") None [] None ∷ an_element (codes "head") (Some 0) [] None ∷ an_element (codes "body") (Some 0) [] None ∷ []

abbrev pub blank_page : PageDef
blank_page = record { address = blank; nodes = blank_elements; timers = []; book = []; eager = 0; load = 0 }
