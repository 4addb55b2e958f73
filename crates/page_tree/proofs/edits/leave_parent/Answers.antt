use Rattle.std.proofs.Common.{◌∙◌, ap}
use Rattle.page_tree.specs.Places.{up_of}
use Rattle.page_tree.specs.Inside.{ups_of}
use Rattle.page_tree.proofs.Nodes.{left_parent, left_none, up_within}
use Rattle.page_tree.proofs.edits.leave_parent.Goals as goal

pub drop_kid-requires : goal.drop_kid-requires
drop_kid-requires c = up_within c.args.nodes.now.items c.args.node c.in-Some.up c.requires.tree (c.in-Some.ensures ∙ ap (λ ns. up_of (ups_of ns) c.args.node) c.deref.ensures.value)

pub returns-in-Some : goal.returns-in-Some
returns-in-Some c = c.drop_kid.ensures ∙ left_parent c.args.nodes.now.items c.args.node c.in-Some.up c.requires.tree (c.in-Some.ensures ∙ ap (λ ns. up_of (ups_of ns) c.args.node) c.deref.ensures.value)

pub returns-in-None : goal.returns-in-None
returns-in-None c = left_none c.args.nodes.now.items c.args.node c.requires.tree (c.in-None.ensures ∙ ap (λ ns. up_of (ups_of ns) c.args.node) c.deref.ensures.value)
