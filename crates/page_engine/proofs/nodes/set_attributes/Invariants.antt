use Rattle.std.proofs.Common.{◌≡◌, ◌<◌, false, true, drop}
use Rattle.page_tree.specs.Rows.{count, is_element}
use Rattle.page_engine.specs.Opening.{attributed}
use Rattle.page_engine.proofs.nodes.set_attributes.Given as goal

abbrev pub invariant-loop-attribute : goal.invariant-loop-attribute
invariant-loop-attribute l = record {
  rest : attributed l.document.rows l.node (drop l.attribute-index l.attribute-items) ≡ attributed l.initial.document.rows l.node l.attribute-items;
  element : is_element l.document.rows l.node ≡ true;
  within : l.node < count l.document.rows;
  alive : l.document.spent ≡ l.initial.document.spent;
  unspent : l.document.spent ≡ false;
}
