use Rattle.std.proofs.Common.{◌≡◌, rules, ap, ◌∙◌}
use Rattle.std.specs.Prelude.{is_some}
use Rattle.std.specs.Str.{chars}
use Rattle.std.proofs.lemmas.Str.{chars-IsAscii}
use Rattle.page_tree.specs.Rows.{attribute_of}
use Rattle.page_engine.proofs.values.has_attribute.Goals as goal

pub returns : goal.returns
returns c =
    let rows = c.args.document.now.rows in
    let found : c.is_some.result ≡ is_some (attribute_of rows c.args.node (chars c.args.name.now)) = search rules in
    found ∙ ap (λ t. is_some (attribute_of rows c.args.node t)) (chars-IsAscii c.args.name.now c.requires.ascii)
