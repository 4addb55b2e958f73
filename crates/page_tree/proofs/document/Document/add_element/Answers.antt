use Rattle.std.proofs.Common.{◌≡◌, None, refl, rules, arith}
use Rattle.std.specs.Str.{chars}
use Rattle.page_tree.specs.Rows.{grown, element}
use Rattle.page_tree.specs.Inside.{rows_of}
use Rattle.page_tree.proofs.Names.{none_differ}
use Rattle.page_tree.proofs.Nodes.{grown_nodes}
use Rattle.page_tree.proofs.document.Document.add_element.Goals as goal

pub invariant_of-self-else-is_err : goal.invariant_of-self-else-is_err
invariant_of-self-else-is_err c =
    let nodes = c.self.inside.nodes.items in
    let content = element (chars c.args.tag.now) in
    let pushed : rows_of c.push_element.new.nodes.items ≡ grown (rows_of nodes) None content = search rules in
    grown_nodes nodes c.self.inside.focus c.self.inside.scroll (rows_of c.push_element.new.nodes.items) content refl none_differ pushed c.self.invariant (λ full. c.if-number-eq-MAX_NODES.false (omega arith))
