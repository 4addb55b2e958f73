use Rattle.std.proofs.Common.{ℕ, ◌+◌, List, [], ◌∷◌, ◌++◌, sym, subst, refl, rules}
use Rattle.page_engine.specs.declared.page_def.NodeDef.{NodeDef}
use Rattle.page_file.proofs.NodesRead.{AreRead, read_more, up_marked}
use Rattle.page_file.proofs.Rows.{row_fault}
use Rattle.page_file.specs.NodeRows.{IsNext, next_node}
use Rattle.page_file.specs.Rows.{IsNextFault}
use Rattle.page_file.proofs.nodes.read_nodes.Goals as goal

pub returns-in_err-def-clause-cause : goal.returns-in_err-def-clause-cause
returns-in_err-def-clause-cause c =
    let old = c.loop-value in
    let fault = subst (λ (ds : List NodeDef). IsNextFault ds (next_node ds c.value-item.result) c.in_err-def.field-0.0) c.deref.ensures.value c.in_err-def.ensures.fault in
    let cause = row_fault next_node c.args.values.now old.value-index old.defs.items old.invariant.read c.value-item.result c.loop-value-test.true c.value-item.is c.in_err-def.field-0.0 fault in
    search (rules, cause)

pub mark-requires : goal.mark-requires
mark-requires c =
    let old = c.loop-value in
    let next = subst (λ (ds : List NodeDef). IsNext ds c.value-item.result c.in_ok-def.def c.in_ok-def.depth) c.deref.ensures.value c.in_ok-def.ensures.next in
    up_marked c.args.values.now old.value-index old.defs.items old.depths.items old.flags.items c.value-item.result c.in_ok-def.def c.in_ok-def.depth old.invariant next c.in_ok-def.def.up refl

pub loop-value-preserved : goal.loop-value-preserved
loop-value-preserved c =
    let values = c.args.values.now in
    let old = c.loop-value in
    let i = old.value-index in
    let news = c.mark.new.flags.items in
    let next = subst (λ (ds : List NodeDef). IsNext ds c.value-item.result c.in_ok-def.def c.in_ok-def.depth) c.deref.ensures.value c.in_ok-def.ensures.next in
    let more = read_more values i c.value-item.result old.defs.items old.depths.items old.flags.items news c.in_ok-def.def c.in_ok-def.depth old.invariant c.loop-value-test.true c.value-item.is next c.mark.ensures.many c.mark.ensures.marked in
    subst (λ (ds : List NodeDef). AreRead values (i + 1) ds c.push-in-loop-value.new.self.items news) (sym c.in_ok-push.ensures.items)
    (subst (λ (ns : List ℕ). AreRead values (i + 1) (old.defs.items ++ c.in_ok-def.def ∷ []) ns news) (sym c.in_ok-push-2.ensures.items) more)
