-- One node has one reference, and one reference finds one node.
use Rattle.std.proofs.Common.{◌≡◌, ◌≢◌, ℕ, ◌<◌, ◌⊎◌, inl, inr, List, [], ◌∷◌, ◌++◌, get_or, Bool, true, false, ◌&&◌, nat_eq, Option, Some, None, refl, sym, ap, ◌∙◌, arith, subst, unwrap_or}
use Rattle.std.specs.Prelude.{if◌then◌else◌, ◌==◌}
use Rattle.std.specs.List.{find, Contains, AllPairs}
use Rattle.std.specs.Option.{option_map}
use Rattle.std.specs.Cmp.Lexicographic.{pointwise}
use Rattle.std.proofs.lemmas.Bool.{cases_order, eq-eqb, eqb-true}
use Rattle.std.proofs.lemmas.Bool.Decides.{nat_tests}
use Rattle.std.proofs.lemmas.List.{get_or_default}
use Rattle.std.proofs.lemmas.List.Elements.{All-contains, Contains-push}
use Rattle.references.specs.declared.kind.Kind.{Kind}
use Rattle.references.specs.declared.name.NodeName.{NodeName}
use Rattle.references.specs.declared.name.Entry.{Entry}
use Rattle.references.specs.Identifier.{Identifier, IsInRange, kind_number, text_of, is_text_of}
use Rattle.references.specs.Series.{id_at, last_serial}
use Rattle.references.specs.Handed.{Handed, handed, given, same_kind, is_named, has_text_at, name_with, with_entry}
use Rattle.references.specs.Issued.{IsIssued, AreIssued}
use Rattle.references.specs.Laws.{id_of, OneEntryForText, OneEntryForName, EntriesAreFound, HandedOutIsFound, HandedOutAgain, FoundStaysFound}
use Rattle.references.proofs.IdentifierText.{kind_same, same_id}
use Rattle.references.proofs.Issuing.{issued_entry}
use Rattle.references.proofs.Finding.{find_some, find_any, found_longer, found_last}

-- ---- two entries

pair_at : {X : Type 0} (R : X → X → Type 0) (xs : List X) (a b : X) (c : Contains xs a) (d : Contains xs b) → AllPairs R xs → c.0 < d.0 → R a b
pair_at R xs a b c d all l = rw (c.2, get_or_default xs d.0 a b d.1 ∙ d.2) at (all c.0 d.0 a l d.1)

-- elements that stand in no order to one another are one
same_place : {X : Type 0} (R : X → X → Type 0) (xs : List X) (a b : X) → Contains xs a → Contains xs b → AllPairs R xs → (R a b → ⊥) → (R b a → ⊥) → a ≡ b
same_place R xs a b c d all n m = elim (cases_order c.0 d.0) [
  | inl e ↦ sym c.2 ∙ get_or_default xs c.0 a b c.1 ∙ ap (λ i. get_or xs i b) e ∙ d.2
  | inr (inl l) ↦ absurd (n (pair_at R xs a b c d all l))
  | inr (inr g) ↦ absurd (m (pair_at R xs b a d c all g))
]

same_serial : (h : Handed) (a b : Entry) → AreIssued h → Contains h.entries a → Contains h.entries b → a.serial ≡ b.serial → a ≡ b
same_serial h a b i c d e = same_place (λ x y. x.serial < y.serial) h.entries a b c d i.rise (λ l. absurd (omega arith)) (λ l. absurd (omega arith))

in_range : (h : Handed) (kind : Kind) (e : Entry) → AreIssued h → Contains h.entries e → IsInRange (id_at h.ids kind e.serial)
in_range h kind e i c =
    let f = i.fit in
    let k = All-contains (IsIssued h) h.entries e i.each c in
    record { run = f.run; session = f.session; serial = omega arith }

-- of two texts under any kinds
serials_same : (h : Handed) (k j : Kind) (a b : Entry) → AreIssued h → Contains h.entries a → Contains h.entries b → text_of (id_at h.ids k a.serial) ≡ text_of (id_at h.ids j b.serial) → a ≡ b
serials_same h k j a b i c d e =
    same_serial h a b i c d (ap (λ (id : Identifier). id.serial) (same_id _ _ (in_range h k a i c) (in_range h j b i d) e))

pub one_entry_for_text : OneEntryForText
one_entry_for_text h a b i c d e = serials_same h a.kind b.kind a b i c d e

named_back : (a b : Entry) → is_named b.kind b.name a ≡ true → is_named a.kind a.name b ≡ true
named_back a b e = grind (arith, nat_tests)

pub one_entry_for_name : OneEntryForName
one_entry_for_name h a b i c d e =
    let back = named_back a b e in
    same_place (λ x y. is_named y.kind y.name x ≡ false) h.entries a b c d i.names (λ n. absurd (cc)) (λ n. absurd (cc))

-- ---- an entry is found by its text

both : (a b : Bool) → a ≡ true → b ≡ true → (a && b) ≡ true
both a b p q = cc

parts : (a b : Bool) → (a && b) ≡ true → (a ≡ true) × (b ≡ true)
parts true b e = (refl, e)
parts false b e = absurd (cc)

same_list : (xs : List ℕ) → pointwise nat_eq xs xs ≡ true
same_list [] = refl
same_list (x ∷ xs) = both (nat_eq x x) (pointwise nat_eq xs xs) (eq-eqb x x refl) (same_list xs)

list_same : (xs ys : List ℕ) → pointwise nat_eq xs ys ≡ true → xs ≡ ys
list_same [] [] e = refl
list_same [] (y ∷ ys) e = absurd (cc)
list_same (x ∷ xs) [] e = absurd (cc)
list_same (x ∷ xs) (y ∷ ys) e =
    let q = parts (nat_eq x y) (pointwise nat_eq xs ys) e in
    let h : x ≡ y = eqb-true x y q.0 in
    let t = list_same xs ys q.1 in
    cc

pub entries_are_found : EntriesAreFound
entries_are_found h e i c =
    let text = text_of (id_of h e) in
    let p = has_text_at h.ids e.kind text in
    let passes : p e ≡ true = both (same_kind e.kind e.kind) (pointwise nat_eq text text) (eq-eqb (kind_number e.kind) (kind_number e.kind) refl) (same_list text) in
    let f = find_any p h.entries e c passes in
    let s = find_some p h.entries f.0 f.1 in
    let q = parts (same_kind (f.0).kind e.kind) (is_text_of (id_at h.ids e.kind (f.0).serial) text) s.0 in
    let one : f.0 ≡ e = serials_same h e.kind e.kind f.0 e i s.1 c (list_same _ _ q.1) in
    ap (λ o. option_map (λ (d : Entry). d.name) o) f.1 ∙ ap (λ (d : Entry). Some d.name) one

-- ---- handing out

-- it ends in one of two ways
abbrev pub HasEntry : Handed → Handed → Kind → NodeName → Identifier → Type 0
HasEntry h g kind name id = (e : Entry) × (find (is_named kind name) h.entries ≡ Some e) × (id_at h.ids kind e.serial ≡ id) × (h ≡ g)

abbrev pub GetsEntry : Handed → Handed → Kind → NodeName → Identifier → Type 0
GetsEntry h g kind name id = (find (is_named kind name) h.entries ≡ None) × (h.ids.next ≢ last_serial) × (id_at h.ids kind h.ids.next ≡ id) × (with_entry h kind name ≡ g)

pair_same : {A B : Type 0} (a c : A) (b d : B) → ◌≡◌ {A = Option (A × B)} (Some (a, b)) (Some (c, d)) → (a ≡ c) × (b ≡ d)
pair_same {A} {B} a c b d e =
    let s : ◌≡◌ {A = A × B} (a, b) (c, d) = ap (λ (o : Option (A × B)). unwrap_or o (a, b)) e in
    (ap (λ (p : A × B). p.0) s, ap (λ (p : A × B). p.1) s)

same_pair : {A B : Type 0} (a c : A) (b d : B) → a ≡ c → b ≡ d → ◌≡◌ {A = Option (A × B)} (Some (a, b)) (Some (c, d))
same_pair {A} {B} a c b d p q = rw (p, q) refl

pub handed_ways : (h g : Handed) (kind : Kind) (name : NodeName) (id : Identifier) → handed h kind name ≡ Some (id, g) → HasEntry h g kind name id ⊎ GetsEntry h g kind name id
unfolding handed
handed_ways h g kind name id e = by (find (is_named kind name) h.entries) refl e
  where
    fresh : find (is_named kind name) h.entries ≡ None → (b : Bool) → (h.ids.next == last_serial) ≡ b → if◌then◌else◌ {A = Option (Identifier × Handed)} b None (Some (id_at h.ids kind h.ids.next, with_entry h kind name)) ≡ Some (id, g) → HasEntry h g kind name id ⊎ GetsEntry h g kind name id
    fresh f true t e = absurd (cc)
    fresh f false t e = let s = pair_same _ _ _ _ e in inr (f, (λ l. absurd (grind (arith, nat_tests))), s.0, s.1)

    by : (o : Option Entry) → find (is_named kind name) h.entries ≡ o → given h kind name o ≡ Some (id, g) → HasEntry h g kind name id ⊎ GetsEntry h g kind name id
    by (Some d) f e = let s = pair_same _ _ _ _ e in inl (d, f, s.0, s.1)
    by None f e = fresh f (h.ids.next == last_serial) refl e

abbrev new_entry : Handed → Kind → NodeName → Entry
new_entry h kind name = record { kind = kind; name = name; serial = h.ids.next }

names_itself : (h : Handed) (kind : Kind) (name : NodeName) → is_named kind name (new_entry h kind name) ≡ true
names_itself h kind name =
    both (same_kind kind kind) (nat_eq name.document name.document && nat_eq name.node name.node) (eq-eqb (kind_number kind) (kind_number kind) refl)
    (both (nat_eq name.document name.document) (nat_eq name.node name.node) (eq-eqb name.document name.document refl) (eq-eqb name.node name.node refl))

-- what a name is
named_is : (kind : Kind) (name : NodeName) (e : Entry) → is_named kind name e ≡ true → (e.kind ≡ kind) × (e.name ≡ name)
named_is kind name e h =
    let k = parts (same_kind e.kind kind) (nat_eq e.name.document name.document && nat_eq e.name.node name.node) h in
    let n = parts (nat_eq e.name.document name.document) (nat_eq e.name.node name.node) k.1 in
    let d : e.name.document ≡ name.document = eqb-true _ _ n.0 in
    let m : e.name.node ≡ name.node = eqb-true _ _ n.1 in
    (kind_same e.kind kind (eqb-true _ _ k.0), made e.name.document name.document e.name.node name.node d m)
  where
    made : (a b x y : ℕ) → a ≡ b → x ≡ y → ◌≡◌ {A = NodeName} (record { document = a; node = x }) (record { document = b; node = y })
    made a b x y p q = rw (p, q) refl

-- a new entry is found by its name
kept_entry : (h : Handed) (kind : Kind) (name : NodeName) → find (is_named kind name) h.entries ≡ None → ◌≡◌ {A = Option (Identifier × Handed)} (handed (with_entry h kind name) kind name) (Some (id_at h.ids kind h.ids.next, with_entry h kind name))
unfolding handed
kept_entry h kind name f = ap (given (with_entry h kind name) kind name) (found_last (is_named kind name) h.entries (new_entry h kind name) f (names_itself h kind name))

pub longer_map : (p : Entry → Bool) (xs ys : List Entry) (node : NodeName) → option_map (λ (e : Entry). e.name) (find p xs) ≡ Some node → option_map (λ (e : Entry). e.name) (find p (xs ++ ys)) ≡ Some node
longer_map p xs ys node h = by (find p xs) refl h
  where
    by : (o : Option Entry) → find p xs ≡ o → option_map (λ (e : Entry). e.name) o ≡ Some node → option_map (λ (e : Entry). e.name) (find p (xs ++ ys)) ≡ Some node
    by None e h = absurd (cc)
    by (Some x) e h = ap (λ o. option_map (λ (d : Entry). d.name) o) (found_longer p xs ys x e) ∙ h

pub handed_out_again : HandedOutAgain
handed_out_again h g kind name id e = elim (handed_ways h g kind name id e) [
  | inl w ↦ ap (λ k. handed k kind name) (sym w.3) ∙ e
  | inr w ↦ ap (λ k. handed k kind name) (sym w.3) ∙ kept_entry h kind name w.0 ∙ same_pair _ _ _ _ w.2 w.3
]

pub handed_out_is_found : HandedOutIsFound
handed_out_is_found h g kind name id i k e = elim (handed_ways h g kind name id e) [
  | inl w ↦ ap (λ s. name_with s kind (text_of id)) (sym w.3) ∙ ap (λ x. name_with h kind (text_of x)) (sym w.2)
      ∙ there w.0 (find_some (is_named kind name) h.entries w.0 w.1)
  | inr w ↦ ap (λ s. name_with s kind (text_of id)) (sym w.3) ∙ ap (λ x. name_with (with_entry h kind name) kind (text_of x)) (sym w.2)
      ∙ entries_are_found (with_entry h kind name) (new_entry h kind name) (issued_entry h i w.1 kind name k w.0) (Contains-push h.entries (new_entry h kind name))
]
  where
    there : (d : Entry) → (is_named kind name d ≡ true) × Contains h.entries d → name_with h kind (text_of (id_at h.ids kind d.serial)) ≡ Some name
    there d s = let q = named_is kind name d s.0 in
        subst (λ j. name_with h j (text_of (id_at h.ids j d.serial)) ≡ Some d.name) q.0 (entries_are_found h d i s.1) ∙ ap (λ n. Some n) q.1

pub found_stays_found : FoundStaysFound
found_stays_found h g kind other name node id text e f = elim (handed_ways h g kind name id e) [
  | inl w ↦ ap (λ s. name_with s other text) (sym w.3) ∙ f
  | inr w ↦ ap (λ s. name_with s other text) (sym w.3)
      ∙ longer_map (has_text_at h.ids other text) h.entries (new_entry h kind name ∷ []) node f
]
