use Rattle.std.proofs.Common.{pos, sym, ap, ◌∙◌, subst}
use Rattle.wd_json.specs.Keys.{KeysRise}
use Rattle.wd_json.specs.declared.value.Json.TheVariants.{Int, Object}
use Rattle.capabilities.proofs.Keys.{three-rise, three-pushed}
use Rattle.capabilities.proofs.Whole.{Whole}
use Rattle.capabilities.proofs.EchoWhole.{timeouts_object-whole}
use Rattle.capabilities.proofs.timeouts.timeouts_object.Goals as goal

pub from_sorted-requires : goal.from_sorted-requires
from_sorted-requires c =
    let t = c.args.timeouts in
    subst KeysRise (sym (three-pushed _ _ _ _ _ _ _ _ _ _ c.in_ok-members.ensures.items c.in_ok-push.ensures.items c.in_ok-push-2.ensures.items c.in_ok-push-3.ensures.items c.in_ok-member.ensures c.in_ok-member-2.ensures c.in_ok-member-3.ensures))
    (three-rise (Int (pos t.implicit)) (Int (pos t.page_load)) (Int (pos t.script)))

pub returns-clause-members : goal.returns-clause-members
returns-clause-members c =
    ap Object (c.from_sorted.ensures ∙ three-pushed _ _ _ _ _ _ _ _ _ _ c.in_ok-members.ensures.items c.in_ok-push.ensures.items c.in_ok-push-2.ensures.items c.in_ok-push-3.ensures.items c.in_ok-member.ensures c.in_ok-member-2.ensures c.in_ok-member-3.ensures)

pub returns-clause-whole : goal.returns-clause-whole
returns-clause-whole c = subst Whole (sym (returns-clause-members c)) (timeouts_object-whole c.args.timeouts c.requires)
