-- `about:blank` keeps the rules of a page.
use Rattle.std.proofs.Common.{◌≡◌, true, [], map, refl, sym, subst, arith}
use Rattle.page_tree.specs.Places.{all_shallow, chain}
use Rattle.page_engine.specs.Blank.{blank_elements, blank_page}
use Rattle.page_engine.specs.Nodes.{AreNodes}
use Rattle.page_engine.specs.Pages.{IsLawfulPage}
use Rattle.page_engine.specs.declared.page_def.PageDef.{PageDef}
use Rattle.page_engine.proofs.LawfulPages.{are_nodes, lawful_nodes}

shallow : all_shallow (map (λ d. d.up) blank_elements) ≡ true
unfolding blank_elements chain
shallow = refl

kept : are_nodes [] blank_elements ≡ true
unfolding blank_elements
kept = refl

nodes : AreNodes blank_elements
unfolding blank_elements
nodes = lawful_nodes blank_elements (omega arith) refl kept shallow

pub blank_lawful : IsLawfulPage blank_page
blank_lawful = record { nodes = nodes; few_timers = omega arith; timers = refl; book = refl; eager = omega arith; load = omega arith }

pub lawful_blank : (page : PageDef) → page ≡ blank_page → IsLawfulPage page
lawful_blank page is = subst IsLawfulPage (sym is) blank_lawful
