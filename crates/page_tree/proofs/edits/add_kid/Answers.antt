use Rattle.std.proofs.Common.{refl, ap, ◌∙◌}
use Rattle.page_tree.specs.Places.{put_among}
use Rattle.page_tree.specs.Rows.{with_kids}
use Rattle.page_tree.specs.Inside.{rows_of}
use Rattle.page_tree.proofs.Nodes.{rows-set_kids, rows_kept, kids_read, where_ok, where_err}
use Rattle.page_tree.proofs.edits.add_kid.Goals as goal

pub returns-clause-ok : goal.returns-clause-ok
returns-clause-ok c =
    let nodes = c.args.nodes.now.items in
    let node = c.index_mut.result.now in
    where_ok c.put_in.result _ _
    (λ e. rows-set_kids nodes c.index.result c.args.node node _ c.index.ensures.same c.requires c.index_mut.ensures.value refl refl refl
    ∙ ap (with_kids (rows_of nodes) c.args.node) (e ∙ ap (put_among c.args.place c.args.kid) (kids_read nodes c.index.result c.args.node node c.index.ensures.same c.requires c.index_mut.ensures.value)))
    c.put_in.ensures.ok

pub returns-clause-err : goal.returns-clause-err
returns-clause-err c =
    where_err c.put_in.result _ _
    (λ e. rows_kept c.args.nodes.now.items c.index.result c.args.node c.index_mut.result.now _ c.index.ensures.same c.requires c.index_mut.ensures.value refl e refl refl)
    c.put_in.ensures.err
