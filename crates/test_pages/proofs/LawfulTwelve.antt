-- The page of twelve nodes keeps the rules.
use Rattle.std.proofs.Common.{◌≡◌, true, [], pos, map, refl, sym, subst, arith, rules}
use Rattle.std.specs.List.{list_all}
use Rattle.page_tree.specs.Places.{all_shallow, chain}
use Rattle.page_engine.specs.Fitting.{anywhere, timed, fits_at}
use Rattle.page_engine.specs.Nodes.{AreNodes}
use Rattle.page_engine.specs.Pages.{IsLawfulPage, is_timer}
use Rattle.page_engine.specs.declared.effect.Effect.{the_lemmas}
use Rattle.page_engine.specs.declared.effect.Effect.TheVariants.{Remove, After, Layer}
use Rattle.page_engine.specs.declared.page_def.PageDef.{PageDef}
use Rattle.page_engine.proofs.LawfulPages.{are_nodes, lawful_nodes}
use Rattle.test_pages.specs.TwelveNodes.{head_and_body, input_and_div, shadow_tree, em_and_ul, lone_text, timers, twelve, page_of_twelve}

shallow : all_shallow (map (λ d. d.up) twelve) ≡ true
unfolding head_and_body input_and_div shadow_tree em_and_ul lone_text chain
shallow = refl

remove_fits : fits_at (Remove 8) anywhere ≡ true
remove_fits = search (rules, the_lemmas)

after_fits : fits_at (After 10 []) anywhere ≡ true
after_fits = search (rules, the_lemmas)

second_fits : fits_at (Layer 3 (pos 2)) timed ≡ true
second_fits = search (rules, the_lemmas)

first_fits : fits_at (Layer 3 (pos 1)) timed ≡ true
first_fits = search (rules, the_lemmas)

kept : are_nodes [] twelve ≡ true
unfolding head_and_body input_and_div shadow_tree em_and_ul lone_text
kept = rw remove_fits rw after_fits refl

nodes : AreNodes twelve
unfolding head_and_body input_and_div shadow_tree em_and_ul lone_text
nodes = lawful_nodes twelve (omega arith) refl kept shallow

timers_fit : list_all is_timer timers ≡ true
unfolding timers
timers_fit = rw second_fits rw first_fits refl

lawful : IsLawfulPage page_of_twelve
unfolding timers
lawful = record { nodes = nodes; few_timers = omega arith; timers = timers_fit; book = refl; eager = omega arith; load = omega arith }

pub lawful_page : (page : PageDef) → page ≡ page_of_twelve → IsLawfulPage page
lawful_page page is = subst IsLawfulPage (sym is) lawful
