-- Where the pages of a site lead, and how heavy a page is with its frames.
use Rattle.std.specs.Prelude.{ℕ, ◌+◌, zero, suc, nat_le, ◌≡◌, Bool, true, false, List, [], ◌∷◌, ◌++◌, Option, Some, None, Ok, Err, is_some, length, map, sum, slice_get, codes, if◌then◌else◌}
use Rattle.std.specs.List.{list_all, flat_map, find, position}
use Rattle.std.specs.Option.{option_map, option_and_then}
use Rattle.std.specs.Str.{bytes_eq, encode_utf8_all}
use Rattle.url.specs.Parts.{Parts, serialize}
use Rattle.url.specs.Parser.{parse_url, Parsed}
use Rattle.page_engine.specs.declared.effect.Effect.{Effect, fold-Effect}
use Rattle.page_engine.specs.declared.effect.Effect.TheOpen.{Effect-F}
use Rattle.page_engine.specs.declared.page_def.NodeDef.{NodeDef}
use Rattle.page_engine.specs.declared.page_def.NodeKind.{NodeKind}
use Rattle.page_engine.specs.declared.page_def.NodeKind.TheVariants.{Element, Chars, Shadow}
use Rattle.page_engine.specs.declared.page_def.PageDef.{PageDef}
use Rattle.page_engine.specs.declared.target.Target.{Target}
use Rattle.page_engine.specs.declared.target.Target.TheVariants.{Blank, Page}

-- ---- the addresses that a page names

-- those that one effect asks for, where it is told of those of the lists inside
abbrev pub leads_step : Effect-F (List (List ℕ)) → List (List ℕ)
leads_step (Effect-F.Go address) = address ∷ []
leads_step (Effect-F.Open address) = address ∷ []
leads_step (Effect-F.After ms effects) = flat_map (λ texts. texts) effects
leads_step (Effect-F.Prompt kind text answer accepted dismissed) = flat_map (λ texts. texts) accepted ++ flat_map (λ texts. texts) dismissed
leads_step other = []

-- the addresses of `go` and `open` in an effect
abbrev pub leads_of : Effect → List (List ℕ)
leads_of = fold-Effect (List (List ℕ)) leads_step

abbrev pub leads_of_all : List Effect → List (List ℕ)
leads_of_all effects = flat_map leads_of effects

abbrev pub is_frame_kind : NodeKind → Bool
is_frame_kind (Element tag) = bytes_eq (encode_utf8_all tag) (codes "iframe")
is_frame_kind (Chars text) = false
is_frame_kind Shadow = false

abbrev pub is_frame : NodeDef → Bool
is_frame d = is_frame_kind d.kind

-- an iframe's source
abbrev pub source_of : NodeDef → Option (List ℕ)
source_of d = option_map (λ a. a.1) (find (λ a. bytes_eq (encode_utf8_all a.0) (codes "src")) d.attrs)

abbrev pub frame_of : NodeDef → List (Option (List ℕ))
frame_of d = if is_frame d then source_of d ∷ [] else []

-- the sources of the iframes, connected or not, in their order; None for an iframe without one
abbrev pub frames : PageDef → List (Option (List ℕ))
frames page = flat_map frame_of page.nodes

abbrev pub some_of : {X : Type 0} → List (Option X) → List X
some_of [] = []
some_of (None ∷ rest) = some_of rest
some_of (Some x ∷ rest) = x ∷ some_of rest

abbrev pub handler_leads : NodeDef → List (List ℕ)
handler_leads d = flat_map (λ handler. leads_of_all handler.1) d.on

-- the addresses of a page's iframes, and of each `go` and `open` in its handlers, its timers and its scripts
abbrev pub leads : PageDef → List (List ℕ)
leads page = some_of (frames page)
    ++ (flat_map handler_leads page.nodes
    ++ (flat_map (λ timer. leads_of_all timer.effects) page.timers
    ++ flat_map (λ entry. leads_of_all entry.effects) page.book))

-- ---- where they lead

abbrev pub parsed : Parsed Parts → Option Parts
parsed (Ok url) = Some url
parsed (Err e) = None

-- the address, as it is serialised, without its fragment
abbrev pub without_fragment : Parts → List ℕ
without_fragment url = serialize (record url { fragment = None })

-- the address that a text names beside a URL, without its fragment
abbrev pub joined : Parts → List ℕ → Option (List ℕ)
joined base text = option_map without_fragment (parsed (parse_url (Some base) (encode_utf8_all text)))

abbrev pub blank : List ℕ
blank = codes "about:blank"

abbrev pub target_at : List PageDef → List ℕ → Option Target
target_at pages address =
    if bytes_eq address blank then Some Blank
    else option_map Page (position (λ page. bytes_eq page.address address) pages)

-- where a text leads beside a URL
abbrev pub target_beside : List PageDef → List ℕ → Parts → Option Target
target_beside pages text base = option_and_then (target_at pages) (joined base text)

-- where a text leads on the page with that address; None where it leads to no page
abbrev pub target_of : List PageDef → List ℕ → List ℕ → Option Target
target_of pages own text = option_and_then (target_beside pages text) (parsed (parse_url None (encode_utf8_all own)))

-- where an iframe leads: without a source to `about:blank`
abbrev pub frame_target : List PageDef → List ℕ → Option (List ℕ) → Option Target
frame_target pages own None = Some Blank
frame_target pages own (Some source) = target_of pages own source

-- all addresses of the page lead to a page or to `about:blank`
abbrev pub is_linked : List PageDef → PageDef → Bool
is_linked pages page = list_all (λ text. is_some (target_of pages page.address text)) (leads page)

-- ---- weight

-- the nodes of `about:blank`: html with head and body
abbrev pub blank_nodes : ℕ
blank_nodes = 3

-- frames stand at depths 1 to 8
abbrev pub frame_levels : ℕ
frame_levels = 8

-- a page with its frames has at most so many nodes
abbrev pub heaviest : ℕ
heaviest = 100000

abbrev pub weight_here : (PageDef → ℕ) → Option PageDef → ℕ
weight_here weight None = blank_nodes
weight_here weight (Some page) = weight page

abbrev pub weight_at : (PageDef → ℕ) → List PageDef → Option Target → ℕ
weight_at weight pages (Some (Page place)) = weight_here weight (slice_get pages place)
weight_at weight pages other = blank_nodes

-- the nodes of a document below which frames stand on so many levels, with those of its frames; where
-- there is no level left the document is `about:blank`
abbrev pub weight : List PageDef → ℕ → PageDef → ℕ
weight pages zero page = blank_nodes
weight pages (suc levels) page = length page.nodes + sum (map (λ frame. weight_at (weight pages levels) pages (frame_target pages page.address frame)) (frames page))

abbrev pub is_light : List PageDef → PageDef → Bool
is_light pages page = nat_le (weight pages frame_levels page) heaviest

-- all pages are linked and light
pub record AreLinked (pages : List PageDef) : Type 0 where
  pub linked : list_all (is_linked pages) pages ≡ true
  pub light : list_all (is_light pages) pages ≡ true
