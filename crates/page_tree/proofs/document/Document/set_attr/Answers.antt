use Rattle.std.proofs.Common.{◌≡◌, refl, rules, sym, ap, subst, option_map}
use Rattle.std.specs.Str.{chars}
use Rattle.std.specs.Option.{option_copied}
use Rattle.page_tree.specs.Attributes.{changed_to}
use Rattle.page_tree.specs.Rows.{IsTree, with_attribute}
use Rattle.page_tree.specs.Inside.{rows_of, seen}
use Rattle.page_tree.proofs.Names.{differ_changed}
use Rattle.page_tree.proofs.Trees.{changed_is_tree}
use Rattle.page_tree.proofs.document.Document.set_attr.Goals as goal

pub invariant_of-self-else-is_err : goal.invariant_of-self-else-is_err
invariant_of-self-else-is_err c =
    let before = c.self.inside in
    let rows = rows_of before.nodes.items in
    let name = chars c.args.name.now in
    let value = option_map chars (option_copied c.args.value) in
    let changed : rows_of c.set_attribute.new.nodes.items ≡ with_attribute rows c.args.node name value = search rules in
    subst IsTree (sym (ap (λ r. seen r before.focus before.scroll) changed))
    (changed_is_tree (seen rows before.focus before.scroll) c.args.node (λ content. record content { attributes = changed_to name value content.attributes }) (λ content. refl) (λ content. differ_changed name value content.attributes) c.self.invariant)
