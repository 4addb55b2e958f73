use Rattle.std.proofs.Common.{◌≡◌, ◌∙◌, ◌&&◌, ℕ, Bool, refl, arith, ap, nat_eq}
use Rattle.references.specs.Handed.{is_named, same_kind}
use Rattle.references.specs.declared.kind.Kind.{Kind}
use Rattle.references.specs.declared.kind.Kind.TheVariants.{Session, Window, Element, Shadow}
use Rattle.references.specs.declared.name.Entry.{Entry}
use Rattle.references.specs.contracts.kind.KindPartialEq.TheImpl.{ghosts as of_kinds}
use Rattle.references.specs.contracts.name.EntryPartialEq.TheImpl.{ghosts}
use Rattle.references.proofs.Indexed.{added_last}
use Rattle.references.proofs.look.add_entry.Goals as goal

kinds : (a b : Kind) → of_kinds.eq a b ≡ same_kind b a
kinds Session Session = refl
kinds Session Window = refl
kinds Session Element = refl
kinds Session Shadow = refl
kinds Window Session = refl
kinds Window Window = refl
kinds Window Element = refl
kinds Window Shadow = refl
kinds Element Session = refl
kinds Element Window = refl
kinds Element Element = refl
kinds Element Shadow = refl
kinds Shadow Session = refl
kinds Shadow Window = refl
kinds Shadow Element = refl
kinds Shadow Shadow = refl

turned : (m n : ℕ) → nat_eq m n ≡ nat_eq n m
turned m n = grind arith

same : (e x : Entry) → ghosts.eq e x ≡ is_named e.kind e.name x
same e x = ap (λ (b : Bool). b && (nat_eq e.name.document x.name.document && nat_eq e.name.node x.name.node)) (kinds e.kind x.kind)
    ∙ ap (λ (b : Bool). same_kind x.kind e.kind && (b && nat_eq e.name.node x.name.node)) (turned e.name.document x.name.document)
    ∙ ap (λ (b : Bool). same_kind x.kind e.kind && (nat_eq x.name.document e.name.document && b)) (turned e.name.node x.name.node)

pub returns-in-Ok-clause-added : goal.returns-in-Ok-clause-added
returns-in-Ok-clause-added c =
    c.in-Ok.ensures.keys ∙ added_last ghosts.eq (is_named c.args.entry.kind c.args.entry.name) c.args.entries.now.keys c.args.entry (same c.args.entry) c.requires
