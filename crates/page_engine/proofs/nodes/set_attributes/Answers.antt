use Rattle.std.proofs.Common.{◌≡◌, ◌∙◌, refl, sym, ap, Some, arith}
use Rattle.page_tree.specs.DocumentState.{DocumentState}
use Rattle.page_tree.specs.Attributes.{changed_to}
use Rattle.page_tree.specs.Rows.{count}
use Rattle.page_engine.specs.Opening.{attributed}
use Rattle.page_engine.proofs.Filling.{same_document, kept, attributes_step, attributes_done}
use Rattle.page_engine.proofs.nodes.set_attributes.Goals as goal

pub loop-attribute-preserved : goal.loop-attribute-preserved
loop-attribute-preserved c =
    let a = c.attribute-item.result in
    record {
      rest = attributes_step c.loop-attribute.document.rows c.set_attribute.new.document.rows c.args.node c.loop-attribute.attribute-index c.as_slice-attribute-items.result.now a c.loop-attribute-test.true c.attribute-item.is
          (ap (λ (s : DocumentState). s.rows) c.in_ok-set_attribute.ensures) ∙ c.loop-attribute.invariant.rest;
      element = kept c.loop-attribute.document c.set_attribute.new.document c.args.node (λ content. record content { attributes = changed_to a.0 (Some a.1) content.attributes }) (λ x. refl) c.in_ok-set_attribute.ensures c.loop-attribute.invariant.element;
      within = (let e : count c.set_attribute.new.document.rows ≡ count c.loop-attribute.document.rows = ap (λ (s : DocumentState). count s.rows) c.in_ok-set_attribute.ensures in omega (arith, e, c.loop-attribute.invariant.within));
      alive = ap (λ (s : DocumentState). s.spent) c.in_ok-set_attribute.ensures ∙ c.loop-attribute.invariant.alive;
      unspent = ap (λ (s : DocumentState). s.spent) c.in_ok-set_attribute.ensures ∙ c.loop-attribute.invariant.unspent;
    }

pub returns : goal.returns
returns c =
    let now = c.args.document.now in
    same_document c.loop-attribute.document (record now { rows = attributed now.rows c.args.node c.args.attrs.now })
    (sym (attributes_done c.loop-attribute.document.rows c.args.node c.loop-attribute.attribute-index c.as_slice-attribute-items.result.now c.loop-attribute-test.false)
    ∙ c.loop-attribute.invariant.rest ∙ ap (attributed now.rows c.args.node) c.as_slice-attribute-items.ensures) c.loop-attribute.invariant.alive
