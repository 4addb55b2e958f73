use Rattle.std.proofs.Common.{◌≡◌, ◌∙◌, refl, ap, arith, to_z, of_z, w32, ℤ}
use Rattle.std.proofs.lemmas.Int.{ints}
use Rattle.page_tree.specs.DocumentState.{DocumentState}
use Rattle.page_engine.proofs.Filling.{kept, written, written_twice}
use Rattle.page_engine.proofs.nodes.show.Goals as goal

layered : (a : DocumentState) (n : _) (y z : ℤ) → y ≡ z → written a n (λ content. record content { layer = y }) ≡ written a n (λ content. record content { layer = z })
layered a n y z e = ap (λ (l : ℤ). written a n (λ content. record content { layer = l })) e

pub set_layer-requires-clause-an_element : goal.set_layer-requires-clause-an_element
set_layer-requires-clause-an_element c =
    kept c.args.document.now c.set_box.new.self c.args.node (λ content. record content { pixels = c.args.pixels }) (λ x. refl) c.set_box.ensures c.requires.an_element

pub set_hidden-requires-clause-an_element : goal.set_hidden-requires-clause-an_element
set_hidden-requires-clause-an_element c =
    kept c.set_box.new.self c.set_layer.new.self c.args.node (λ content. record content { layer = to_z w32 (of_z w32 c.args.layer) }) (λ x. refl) c.set_layer.ensures
    (kept c.args.document.now c.set_box.new.self c.args.node (λ content. record content { pixels = c.args.pixels }) (λ x. refl) c.set_box.ensures c.requires.an_element)

pub returns : goal.returns
returns c =
    let same : to_z w32 (of_z w32 c.args.layer) ≡ c.args.layer = omega (arith, ints) in
    written_twice c.args.document.now c.set_layer.new.self c.set_hidden.new.self c.args.node
    (λ content. record content { pixels = c.args.pixels; layer = c.args.layer }) (λ content. record content { hidden = c.args.hidden })
    (written_twice c.args.document.now c.set_box.new.self c.set_layer.new.self c.args.node (λ content. record content { pixels = c.args.pixels }) (λ content. record content { layer = c.args.layer })
    c.set_box.ensures (c.set_layer.ensures ∙ layered c.set_box.new.self c.args.node _ _ same)) c.set_hidden.ensures
