use Rattle.std.proofs.Common.{refl}
use Rattle.std.specs.Str.{chars}
use Rattle.page_tree.specs.Rows.{element}
use Rattle.page_tree.specs.Inside.{rows_of}
use Rattle.page_tree.proofs.Names.{none_differ}
use Rattle.page_tree.proofs.Nodes.{first_nodes}
use Rattle.page_tree.proofs.document.Document.new.Goals as goal

pub invariant_of-result : goal.invariant_of-result
invariant_of-result c = first_nodes c.new-nodes.result.items (rows_of c.push_element.new.nodes.items) (element (chars c.args.tag.now)) refl none_differ c.new-nodes.ensures.items c.in_ok-push_element.ensures.ok
