-- The built-in site: one page, that of a session which is given no site.
use Rattle.std.specs.Prelude.{ℕ, pos, List, [], ◌∷◌, ◌++◌, Option, Some, None, false, codes}
use Rattle.page_tree.specs.declared.geometry.PixelBox.{PixelBox}
use Rattle.page_engine.specs.declared.page_def.NodeDef.{NodeDef}
use Rattle.page_engine.specs.declared.page_def.NodeKind.TheVariants.{Element, Chars}
use Rattle.page_engine.specs.declared.page_def.PageDef.{PageDef}
use Rattle.page_engine.specs.declared.site.Site.{Site}

abbrev pub an_element : List ℕ → Option ℕ → List (List ℕ × List ℕ) → Option PixelBox → NodeDef
an_element tag up attrs pixels = record { kind = Element tag; up = up; attrs = attrs; pixels = pixels; layer = pos 0; hidden = false; on = [] }

abbrev pub a_text : List ℕ → ℕ → NodeDef
a_text text up = record { kind = Chars text; up = Some up; attrs = []; pixels = None; layer = pos 0; hidden = false; on = [] }

abbrev pub a_box : ℕ → ℕ → ℕ → ℕ → Option PixelBox
a_box x y w h = Some (record { x = pos x; y = pos y; w = pos w; h = pos h })

-- html, with its head: a title
unfoldable pub built_in_head : List NodeDef
built_in_head =
    an_element (codes "html") None [] None
    ∷ an_element (codes "head") (Some 0) [] None
    ∷ an_element (codes "title") (Some 1) [] None
    ∷ a_text (codes "Page") 2 ∷ []

-- the body, with a heading
unfoldable pub built_in_heading : List NodeDef
built_in_heading =
    an_element (codes "body") (Some 0) [] (a_box 0 0 1280 800)
    ∷ an_element (codes "h1") (Some 4) ((codes "id", codes "top") ∷ []) (a_box 0 0 640 40)
    ∷ a_text (codes "Hello") 5 ∷ []

-- a field
unfoldable pub built_in_field : List NodeDef
built_in_field = an_element (codes "input") (Some 4) ((codes "id", codes "name") ∷ (codes "type", codes "text") ∷ []) (a_box 0 60 200 20) ∷ []

-- a link
unfoldable pub built_in_link : List NodeDef
built_in_link =
    an_element (codes "a") (Some 4) ((codes "href", codes "/") ∷ []) (a_box 0 100 100 20)
    ∷ a_text (codes "again") 8 ∷ []

abbrev pub built_in_nodes : List NodeDef
built_in_nodes = ((built_in_head ++ built_in_heading) ++ built_in_field) ++ built_in_link

abbrev pub built_in_address : List ℕ
built_in_address = codes "http://page.test/"

abbrev pub built_in_page : PageDef
built_in_page = record { address = built_in_address; nodes = built_in_nodes; timers = []; book = []; eager = 0; load = 0 }

abbrev pub built_in_site : Site
built_in_site = record { start = 0; pages = built_in_page ∷ [] }
