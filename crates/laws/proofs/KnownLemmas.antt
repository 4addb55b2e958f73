-- What is handed out keeps references issued in order, of one run and one session.
use Rattle.std.proofs.Common.{◌≡◌, ◌≢◌, ◌==◌, ◌∷◌, ◌++◌, ◌∙◌, ℕ, List, [], Bool, true, false, Option, Some, None, refl, subst, if◌then◌else◌}
use Rattle.std.specs.List.{find, fold}
use Rattle.std.specs.Option.{option_map}
use Rattle.std.proofs.lemmas.Bool.{eqb-false}
use Rattle.references.specs.Handed.{Handed, given, handed, is_named, is_node_kind, with_entry}
use Rattle.references.specs.HandedAll.{named, and_one, handed_all}
use Rattle.references.specs.Identifier.{Identifier}
use Rattle.references.specs.Issued.{AreIssued}
use Rattle.references.specs.Series.{last_serial, id_at}
use Rattle.references.specs.declared.kind.Kind.{Kind}
use Rattle.references.specs.declared.name.Entry.{Entry}
use Rattle.references.specs.declared.name.NodeName.{NodeName}
use Rattle.references.proofs.Issuing.{issued_entry}

pub record IsKnownOn (h g : Handed) : Type 0 where
  pub issued : AreIssued g
  pub run : g.ids.run ≡ h.ids.run
  pub session : g.ids.session ≡ h.ids.session

pub known_here : (h : Handed) → AreIssued h → IsKnownOn h h
known_here h i = record { issued = i; run = refl; session = refl }

known_on : (h g k : Handed) → IsKnownOn h g → IsKnownOn g k → IsKnownOn h k
known_on h g k a b = record { issued = b.issued; run = b.run ∙ a.run; session = b.session ∙ a.session }

module _ (h : Handed) (kind : Kind) (name : NodeName) (issued : AreIssued h) (is_node : is_node_kind kind ≡ true) where
  entered : find (is_named kind name) h.entries ≡ None → (full : Bool) → (h.ids.next == last_serial) ≡ full → (q : Identifier × Handed)
      → (if full then None else Some (id_at h.ids kind h.ids.next, with_entry h kind name)) ≡ Some q → IsKnownOn h q.1
  entered none true is q e = absurd (let f : None ≡ Some q = e in cc)
  entered none false is q e =
      let left : h.ids.next ≢ last_serial = eqb-false h.ids.next last_serial is in
      let same : ◌≡◌ {A = Identifier × Handed} (id_at h.ids kind h.ids.next, with_entry h kind name) q = cc in
      let P : Identifier × Handed → Type 0 = λ r. IsKnownOn h r.1 in
      subst P same (record { issued = issued_entry h issued left kind name is_node none; run = refl; session = refl })

  by_entry : (o : Option Entry) → find (is_named kind name) h.entries ≡ o → (q : Identifier × Handed) → given h kind name o ≡ Some q → IsKnownOn h q.1
  by_entry (Some entry) is q e =
      let same : ◌≡◌ {A = Identifier × Handed} (id_at h.ids kind entry.serial, h) q = cc in
      let P : Identifier × Handed → Type 0 = λ r. IsKnownOn h r.1 in
      subst P same (known_here h issued)
  by_entry None is q e = entered is (h.ids.next == last_serial) refl q e

  pub handed_known : (q : Identifier × Handed) → handed h kind name ≡ Some q → IsKnownOn h q.1
  unfolding handed
  handed_known q e = by_entry (find (is_named kind name) h.entries) refl q e

-- once a node gets none, the list gets nothing
pub nothing : (kind : Kind) (document : ℕ) (ns : List ℕ) → fold (and_one kind document) None ns ≡ None
nothing kind document [] = refl
nothing kind document (n ∷ ns) = nothing kind document ns

folded : (kind : Kind) (document : ℕ) → is_node_kind kind ≡ true → (ns : List ℕ) (p q : List Identifier × Handed) → AreIssued p.1 → fold (and_one kind document) (Some p) ns ≡ Some q → IsKnownOn p.1 q.1
folded kind document k [] p q i e =
    let same : ◌≡◌ {A = List Identifier × Handed} p q = cc in
    let P : List Identifier × Handed → Type 0 = λ r. IsKnownOn p.1 r.1 in
    subst P same (known_here p.1 i)
folded kind document k (n ∷ ns) p q i e = by (λ r. folded kind document k ns r q) (handed p.1 kind (named document n)) refl e
  where
    by : ((r : List Identifier × Handed) → AreIssued r.1 → fold (and_one kind document) (Some r) ns ≡ Some q → IsKnownOn r.1 q.1)
        → (o : Option (Identifier × Handed)) → handed p.1 kind (named document n) ≡ o
        → fold (and_one kind document) (option_map (λ (r : Identifier × Handed). (p.0 ++ r.0 ∷ [], r.1)) o) ns ≡ Some q → IsKnownOn p.1 q.1
    by more None f e = let s = nothing kind document ns in absurd (cc)
    by more (Some r) f e =
        let first = handed_known p.1 kind (named document n) i k r f in
        known_on p.1 r.1 q.1 first (more (p.0 ++ r.0 ∷ [], r.1) first.issued e)

pub all_known : (h : Handed) (kind : Kind) (document : ℕ) (nodes : List ℕ) (q : List Identifier × Handed) → is_node_kind kind ≡ true → AreIssued h → handed_all h kind document nodes ≡ Some q → IsKnownOn h q.1
unfolding handed_all
all_known h kind document nodes q k i e = folded kind document k nodes ([], h) q i e
