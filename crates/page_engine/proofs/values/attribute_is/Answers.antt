use Rattle.std.proofs.Common.{◌≡◌, false, rules, ap, ◌∙◌}
use Rattle.std.specs.Str.{chars}
use Rattle.std.proofs.lemmas.Str.{chars-IsAscii}
use Rattle.page_tree.specs.Rows.{attribute_of}
use Rattle.page_engine.specs.FirstValues.{has_text}
use Rattle.page_engine.proofs.values.attribute_is.Goals as goal

pub returns-in-Some : goal.returns-in-Some
returns-in-Some c =
    let rows = c.args.document.now.rows in
    let found : c.is_same.result ≡ has_text c.args.text.now (attribute_of rows c.args.node (chars c.args.name.now)) = search rules in
    found ∙ ap (λ t. has_text c.args.text.now (attribute_of rows c.args.node t)) (chars-IsAscii c.args.name.now c.requires.name)

pub returns-in-None : goal.returns-in-None
returns-in-None c =
    let rows = c.args.document.now.rows in
    let found : false ≡ has_text c.args.text.now (attribute_of rows c.args.node (chars c.args.name.now)) = search rules in
    found ∙ ap (λ t. has_text c.args.text.now (attribute_of rows c.args.node t)) (chars-IsAscii c.args.name.now c.requires.name)
