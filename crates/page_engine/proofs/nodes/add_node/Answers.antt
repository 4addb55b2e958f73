use Rattle.std.proofs.Common.{◌∙◌, ap, sym, refl}
use Rattle.std.specs.Str.{chars}
use Rattle.page_tree.specs.Rows.{text_node}
use Rattle.page_engine.specs.Nodes.{is_shadow_def}
use Rattle.page_engine.specs.Opening.{content_of}
use Rattle.page_engine.specs.declared.page_def.NodeKind.TheVariants.{Chars}
use Rattle.page_engine.proofs.Filling.{on_ok, placed_document, hosted_document, no_host_yet, bare_content}
use Rattle.page_engine.proofs.nodes.add_node.Goals as goal

pub host_shadow-requires-clause-no_host : goal.host_shadow-requires-clause-no_host
host_shadow-requires-clause-no_host c =
    no_host_yet c.args.earlier.now c.args.def.now c.args.document.now c.requires.before c.law.ensures c.requires.node c.requires.few c.in-Some.host c.of.result c.in-Shadow.is c.in-Some.is c.of.ensures

pub returns-in-Some : goal.returns-in-Some
returns-in-Some c =
    on_ok c.host_shadow.result _ _ (hosted_document c.args.earlier.now c.args.def.now c.args.document.now c.requires.before c.law.ensures c.requires.node c.requires.few c.host_shadow.new.document c.in-Some.host c.of.result c.in-Shadow.is c.in-Some.is c.of.ensures)
    c.host_shadow.ensures

pub returns-in_ok-node-in-Element : goal.returns-in_ok-node-in-Element
returns-in_ok-node-in-Element c =
    on_ok c.place.result _ _ (placed_document c.args.earlier.now c.args.def.now c.args.document.now c.requires.before c.law.ensures c.requires.node c.requires.few c.add_element.new.document c.place.new.document c.in_ok-node-in-Element.node (content_of c.args.def.now)
    c.in_ok-node-in-Element.ensures.ok refl c.in_ok-node-in-Element.ensures.number (ap is_shadow_def c.in-Element.is)) c.place.ensures

pub returns-in-Ok : goal.returns-in-Ok
returns-in-Ok c =
    on_ok c.place-in-Ok.result _ _ (placed_document c.args.earlier.now c.args.def.now c.args.document.now c.requires.before c.law.ensures c.requires.node c.requires.few c.add_text.new.self c.place-in-Ok.new.document c.in-Ok.node (text_node (chars c.as_str-in-Chars.result.now))
    c.in-Ok.ensures.ok (ap text_node c.as_str-in-Chars.ensures.characters ∙ sym (bare_content c.args.earlier.now c.args.def.now (Chars c.in-Chars.text) c.in-Chars.is refl c.requires.node)) c.in-Ok.ensures.number (ap is_shadow_def c.in-Chars.is)) c.place-in-Ok.ensures
