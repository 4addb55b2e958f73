use Rattle.std.proofs.Common.{◌≡◌, ◌∙◌, ap, sym, subst, Some, Err}
use Rattle.std.proofs.lemmas.List.{get_or_default}
use Rattle.std.proofs.lemmas.Result.{err_from_is_err_and}
use Rattle.references.specs.declared.fault.IdFault.{IdFault}
use Rattle.references.specs.declared.fault.IdFault.TheVariants.{Full}
use Rattle.references.specs.Handed.{Handed, handed}
use Rattle.references.specs.HandedAll.{named, handed_all, Extends}
use Rattle.references.proofs.AllHanded.{all_begun, all_more, all_none, all_extends}
use Rattle.references.proofs.known.Known.hand_out_each.Goals as goal

pub loop-node-init : goal.loop-node-init
loop-node-init c = record {
  so_far = all_begun c.args.self.now c.args.kind c.args.document ∙ ap (λ ids. Some (ids, c.args.self.now)) (sym c.no_ids-ids.ensures);
  unspent = c.requires.unspent;
}

pub returns-in_err-id-clause-full : goal.returns-in_err-id-clause-full
returns-in_err-id-clause-full c =
    let p = err_from_is_err_and c.from_residual.result c.from_residual.ensures.1 in
    let items = c.as_slice-node-items.result.now in
    let number = c.number.ensures ∙ c.node-item.is ∙ get_or_default items c.loop-node.node-index c.node-item.result 0 c.loop-node-test.true in
    λ full.
    let cause : ◌≡◌ {A = IdFault} c.in_err-id.field-0.0 Full = cc (p.1, p.2) in
    let none = c.in_err-id.ensures.full (ap Err cause) in
    let so_far = c.loop-node.invariant.so_far in (
      ap (handed_all c.args.self.now c.args.kind c.args.document) (sym c.as_slice-node-items.ensures)
          ∙ all_none c.args.self.now c.loop-node.self c.args.kind c.args.document items c.loop-node.node-index c.loop-node.ids c.loop-node-test.true so_far
          (ap (λ n. handed c.loop-node.self c.args.kind (named c.args.document n)) (sym number) ∙ none.0),
      subst (Extends c.args.self.now) (sym none.1) (all_extends c.args.self.now c.loop-node.self c.args.kind c.args.document _ c.loop-node.ids so_far),
    )

pub loop-node-preserved : goal.loop-node-preserved
loop-node-preserved c =
    let items = c.as_slice-node-items.result.now in
    let number = c.number.ensures ∙ c.node-item.is ∙ get_or_default items c.loop-node.node-index c.node-item.result 0 c.loop-node-test.true in
    record {
      so_far = rw (c.in_ok-add.ensures.added, c.in_ok-add.ensures.same)
          (all_more c.args.self.now c.loop-node.self c.args.kind c.args.document items c.loop-node.node-index c.loop-node.ids c.loop-node-test.true c.loop-node.invariant.so_far
          c.hand_out.new.self c.in_ok-id.id (ap (λ n. handed c.loop-node.self c.args.kind (named c.args.document n)) (sym number) ∙ c.in_ok-id.ensures.ok));
      unspent = ap (λ (h : Handed). h.spent) c.in_ok-add.ensures.same ∙ c.in_ok-id.ensures.unspent;
    }
