use Rattle.std.proofs.Common.{refl, ap, option_map}
use Rattle.std.specs.Str.{chars}
use Rattle.std.specs.Option.{option_copied}
use Rattle.page_tree.specs.Attributes.{Attributes, changed_to}
use Rattle.page_tree.specs.declared.content.Content.{Content}
use Rattle.page_tree.proofs.Nodes.{rows-set_content, where_ok}
use Rattle.page_tree.proofs.edits.set_attribute.Goals as goal

pub returns-clause-ok : goal.returns-clause-ok
returns-clause-ok c =
    let name = chars c.args.name.now in
    let value = option_map chars (option_copied c.args.value) in
    let node = c.index_mut.result.now in
    where_ok c.change.result _ _
    (λ e. rows-set_content (λ content. record content { attributes = changed_to name value content.attributes }) c.args.nodes.now.items c.index.result c.args.node node _ c.index.ensures.same c.requires c.index_mut.ensures.value
    refl refl refl (ap (λ (attributes : Attributes). let content : Content = record node.content { attributes = attributes } in content) e))
    c.change.ensures.ok
