use Rattle.std.proofs.Common.{◌≡◌, true, false, rules, Some, set, sym, ap, ◌∙◌}
use Rattle.page_tree.specs.Places.{all_shallow, contains, lineage}
use Rattle.page_tree.specs.Rows.{attached}
use Rattle.page_tree.specs.Inside.{rows_of, ups_of}
use Rattle.page_tree.proofs.Moves.{refusal_now, moved_nodes, detached_nodes}
use Rattle.page_tree.proofs.document.Document.insert.Goals as goal

pub returns-then-not-all_shallow_after-clause-cause : goal.returns-then-not-all_shallow_after-clause-cause
returns-then-not-all_shallow_after-clause-cause c =
    refusal_now (rows_of c.self.inside.nodes.items) c.args.self.now.rows c.self.inside.focus c.self.inside.scroll (ap (λ s. s.rows) c.self.view_is) c.args.node c.args.parent c.args.place false false
    (sym c.if-is_above.false ∙ c.is_above.ensures ∙ ap (λ ns. contains c.args.node (lineage (ups_of ns) c.args.parent)) c.deref.ensures.value)
    (sym c.if-not-all_shallow_after.true ∙ c.all_shallow_after.ensures ∙ ap (λ ns. all_shallow (set (ups_of ns) c.args.node (Some c.args.parent))) c.deref-2.ensures.value)

pub returns-then-is_err-clause-cause : goal.returns-then-is_err-clause-cause
returns-then-is_err-clause-cause c =
    refusal_now (rows_of c.self.inside.nodes.items) c.args.self.now.rows c.self.inside.focus c.self.inside.scroll (ap (λ s. s.rows) c.self.view_is) c.args.node c.args.parent c.args.place false true
    (sym c.if-is_above.false ∙ c.is_above.ensures ∙ ap (λ ns. contains c.args.node (lineage (ups_of ns) c.args.parent)) c.deref.ensures.value)
    (sym c.if-not-all_shallow_after.false ∙ c.all_shallow_after.ensures ∙ ap (λ ns. all_shallow (set (ups_of ns) c.args.node (Some c.args.parent))) c.deref-2.ensures.value)

pub returns-clause-cause : goal.returns-clause-cause
returns-clause-cause c =
    refusal_now (rows_of c.self.inside.nodes.items) c.args.self.now.rows c.self.inside.focus c.self.inside.scroll (ap (λ s. s.rows) c.self.view_is) c.args.node c.args.parent c.args.place false true
    (sym c.if-is_above.false ∙ c.is_above.ensures ∙ ap (λ ns. contains c.args.node (lineage (ups_of ns) c.args.parent)) c.deref.ensures.value)
    (sym c.if-not-all_shallow_after.false ∙ c.all_shallow_after.ensures ∙ ap (λ ns. all_shallow (set (ups_of ns) c.args.node (Some c.args.parent))) c.deref-2.ensures.value)

pub invariant_of-self : goal.invariant_of-self
invariant_of-self c =
    let mid = rows_of c.detach.new.nodes.items in
    let second : rows_of c.attach.new.nodes.items ≡ mid = search rules in
    detached_nodes (rows_of c.self.inside.nodes.items) mid (rows_of c.attach.new.nodes.items) c.args.self.now.rows c.self.inside.focus c.self.inside.scroll c.args.node
    (ap (λ s. s.rows) c.self.view_is) c.detach.ensures second c.self.invariant c.requires.not_root c.requires.not_shadow

pub invariant_of-self-else-is_err : goal.invariant_of-self-else-is_err
invariant_of-self-else-is_err c =
    let mid = rows_of c.detach.new.nodes.items in
    let second : rows_of c.attach.new.nodes.items ≡ attached mid c.args.node c.args.parent c.args.place = search rules in
    moved_nodes (rows_of c.self.inside.nodes.items) mid (rows_of c.attach.new.nodes.items) c.args.self.now.rows c.self.inside.focus c.self.inside.scroll c.args.node c.args.parent c.args.place
    (ap (λ s. s.rows) c.self.view_is) c.detach.ensures second c.self.invariant c.requires.not_root c.requires.not_shadow c.requires.not_in_text c.requires.node_in c.requires.parent_in
    (sym c.if-not-all_shallow_after.false ∙ c.all_shallow_after.ensures ∙ ap (λ ns. all_shallow (set (ups_of ns) c.args.node (Some c.args.parent))) c.deref-2.ensures.value)
