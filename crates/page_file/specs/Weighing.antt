-- For private clauses: how heavy pages are, counted up to one more than the heaviest.
use Rattle.std.specs.Prelude.{◌≡◌, ℕ, ◌+◌, min, Bool, false, not, List, [], ◌∷◌, Option, Some, None, Result, Ok, Err, length, map, sum, slice_get}
use Rattle.std.specs.List.{position}
use Rattle.page_engine.specs.Links.{weight, blank_nodes, heaviest, is_light, is_linked}
use Rattle.page_engine.specs.declared.page_def.PageDef.{PageDef}
use Rattle.page_engine.specs.declared.target.Target.{Target}
use Rattle.page_engine.specs.declared.target.Target.TheVariants.{Blank, Page}
use Rattle.page_file.specs.Leading.{AreTargetsOf}
use Rattle.page_file.specs.declared.load.Load.{Load}

abbrev pub capped : ℕ → ℕ
capped n = min n (heaviest + 1)

abbrev pub or_blank : Option ℕ → ℕ
or_blank None = blank_nodes
or_blank (Some n) = n

-- what a frame weighs, by the weights of the pages
abbrev pub frame_load : List ℕ → Target → ℕ
frame_load known Blank = blank_nodes
frame_load known (Page place) = or_blank (slice_get known place)

-- what a page weighs with its frames
abbrev pub page_load : List ℕ → Load → ℕ
page_load known load = capped (load.nodes + sum (map (frame_load known) load.frames))

-- the weights of all pages where frames stand on so many levels
abbrev pub weights : List PageDef → ℕ → List ℕ
weights pages levels = map (λ page. capped (weight pages levels page)) pages

-- how many nodes the page has, and where its frames lead
pub record IsLoadOf (pages : List PageDef) (page : PageDef) (load : Load) : Type 0 where
  pub nodes : load.nodes ≡ length page.nodes
  pub frames : AreTargetsOf pages page load.frames

abbrev pub AreLoadsFrom : List PageDef → List PageDef → List Load → Type 0
AreLoadsFrom pages [] [] = Unit {0}
AreLoadsFrom pages (page ∷ later) (load ∷ loads) = IsLoadOf pages page load × AreLoadsFrom pages later loads
AreLoadsFrom pages [] (load ∷ loads) = ⊥
AreLoadsFrom pages (page ∷ later) [] = ⊥

-- one for each page
abbrev pub AreLoadsOf : List PageDef → List Load → Type 0
AreLoadsOf pages loads = AreLoadsFrom pages pages loads

abbrev pub is_heavy : List PageDef → PageDef → Bool
is_heavy pages page = not (is_light pages page)

-- a load where the page is linked, and none where it isn't
abbrev pub IsLoadOrNone : List PageDef → PageDef → Option Load → Type 0
IsLoadOrNone pages page None = is_linked pages page ≡ false
IsLoadOrNone pages page (Some load) = IsLoadOf pages page load

abbrev pub is_unlinked : List PageDef → PageDef → Bool
is_unlinked pages page = not (is_linked pages page)

-- the loads of all pages, or the place of the first that leads to no page
abbrev pub AreLoadsOrFirst : List PageDef → Result (List Load) ℕ → Type 0
AreLoadsOrFirst pages (Ok loads) = AreLoadsOf pages loads
AreLoadsOrFirst pages (Err place) = position (is_unlinked pages) pages ≡ Some place
