-- The built-in site keeps the rules.
use Rattle.std.proofs.Common.{◌≡◌, true, [], ◌∷◌, map, refl, sym, subst, arith}
use Rattle.std.proofs.lemmas.List.Elements.{All-cons, All-nil}
use Rattle.page_tree.specs.Places.{all_shallow, chain}
use Rattle.page_engine.specs.BuiltIn.{built_in_head, built_in_heading, built_in_field, built_in_link, built_in_nodes, built_in_page, built_in_site, built_in_address}
use Rattle.page_engine.specs.Links.{AreLinked}
use Rattle.page_engine.specs.Nodes.{AreNodes}
use Rattle.page_engine.specs.Pages.{IsLawfulPage}
use Rattle.page_engine.specs.Sites.{IsAddress, IsLawfulSite}
use Rattle.page_engine.specs.declared.page_def.PageDef.{PageDef}
use Rattle.page_engine.specs.declared.site.Site.{Site}
use Rattle.page_engine.proofs.LawfulPages.{are_nodes, lawful_nodes}

shallow : all_shallow (map (λ d. d.up) built_in_nodes) ≡ true
unfolding built_in_head built_in_heading built_in_field built_in_link chain
shallow = refl

kept : are_nodes [] built_in_nodes ≡ true
unfolding built_in_head built_in_heading built_in_field built_in_link
kept = refl

nodes : AreNodes built_in_nodes
unfolding built_in_head built_in_heading built_in_field built_in_link
nodes = lawful_nodes built_in_nodes (omega arith) refl kept shallow

page : IsLawfulPage built_in_page
page = record { nodes = nodes; few_timers = omega arith; timers = refl; book = refl; eager = omega arith; load = omega arith }

linked : AreLinked (built_in_page ∷ [])
unfolding built_in_head built_in_heading built_in_field built_in_link lib.Utf8.encode
linked = record { linked = refl; light = refl }

pub built_in_lawful : IsAddress built_in_address → IsLawfulSite built_in_site
built_in_lawful address = record { few = omega arith; start = omega arith; addresses = All-cons (λ (p : PageDef). IsAddress p.address) built_in_page [] address (All-nil (λ (p : PageDef). IsAddress p.address)); differ = refl; pages = All-cons IsLawfulPage built_in_page [] page (All-nil IsLawfulPage); linked = linked }

pub lawful_site : (site : Site) → site ≡ built_in_site → IsAddress built_in_address → IsLawfulSite site
lawful_site site is address = subst IsLawfulSite (sym is) (built_in_lawful address)
