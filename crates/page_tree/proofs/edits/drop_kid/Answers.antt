use Rattle.std.proofs.Common.{refl, ap, ◌∙◌}
use Rattle.page_tree.specs.Places.{without}
use Rattle.page_tree.specs.Rows.{with_kids}
use Rattle.page_tree.specs.Inside.{rows_of}
use Rattle.page_tree.proofs.Nodes.{rows-set_kids, kids_read}
use Rattle.page_tree.proofs.edits.drop_kid.Goals as goal

pub returns : goal.returns
returns c =
    rows-set_kids c.args.nodes.now.items c.index.result c.args.node c.index_mut.result.now _ c.index.ensures.same c.requires c.index_mut.ensures.value refl refl refl
    ∙ ap (with_kids (rows_of c.args.nodes.now.items) c.args.node) (c.take_out.ensures ∙ ap (without c.args.kid) (kids_read c.args.nodes.now.items c.index.result c.args.node c.index_mut.result.now c.index.ensures.same c.requires c.index_mut.ensures.value))
