use Rattle.std.proofs.Common.{◌≡◌, refl, rules}
use Rattle.page_engine.specs.Opening.{all_set}
use Rattle.page_engine.proofs.Filling.{kept, written, written_twice}
use Rattle.page_engine.proofs.nodes.fill.Goals as goal

pub show-requires-clause-an_element : goal.show-requires-clause-an_element
show-requires-clause-an_element c =
    kept c.args.document.now c.set_attributes.new.document c.args.node (λ content. record content { attributes = all_set c.args.def.now.attrs content.attributes }) (λ x. refl) c.in_ok-set_attributes.ensures c.requires.an_element

pub returns : goal.returns
returns c =
    let layered : c.show.new.document ≡ written c.set_attributes.new.document c.args.node (λ content. record content { pixels = c.args.def.now.pixels; layer = c.args.def.now.layer; hidden = c.args.def.now.hidden }) = search rules in
    written_twice c.args.document.now c.set_attributes.new.document c.show.new.document c.args.node
    (λ content. record content { attributes = all_set c.args.def.now.attrs content.attributes })
    (λ content. record content { pixels = c.args.def.now.pixels; layer = c.args.def.now.layer; hidden = c.args.def.now.hidden })
    c.in_ok-set_attributes.ensures layered
