use Rattle.std.proofs.Common.{◌≡◌, rules, sym, ap, ◌∙◌}
use Rattle.std.specs.Str.{chars}
use Rattle.std.proofs.lemmas.Result.{IfOk-weaker}
use Rattle.std.proofs.lemmas.Str.{chars-IsAscii}
use Rattle.page_tree.specs.Rows.{attribute_of}
use Rattle.page_tree.specs.Texts.{or_nothing}
use Rattle.page_engine.proofs.values.attribute_text.Goals as goal

pub returns-in-Some : goal.returns-in-Some
returns-in-Some c =
    let rows = c.args.document.now.rows in
    let found : or_nothing (attribute_of rows c.args.node (chars c.args.name.now)) ≡ chars c.in-Some.text.now = search rules in
    IfOk-weaker c.of.result _ _ (λ t e. e ∙ sym found ∙ ap (λ n. or_nothing (attribute_of rows c.args.node n)) (chars-IsAscii c.args.name.now c.requires.ascii)) c.of.ensures.characters

pub returns-in-None : goal.returns-in-None
returns-in-None c =
    let rows = c.args.document.now.rows in
    let none : c.new.result ≡ or_nothing (attribute_of rows c.args.node (chars c.args.name.now)) = search rules in
    none ∙ ap (λ n. or_nothing (attribute_of rows c.args.node n)) (chars-IsAscii c.args.name.now c.requires.ascii)
