-- Handing out a list of nodes: what stays, and where the serials are too few.
use Rattle.std.proofs.Common.{◌≡◌, ◌≢◌, ℕ, suc, ◌+◌, ◌<◌, ◌≤◌, inl, inr, List, [], ◌∷◌, ◌++◌, length, take, get_or, Bool, true, false, cond, not, nat_eq, ◌&&◌, Option, Some, None, is_some, refl, sym, ap, ◌∙◌, subst, arith, append_assoc}
use Rattle.std.specs.Prelude.{if◌then◌else◌, ◌==◌}
use Rattle.std.specs.List.{find, filter, fold, AllZip}
use Rattle.std.specs.Option.{option_map, option_or}
use Rattle.std.specs.Set.{distinct_count}
use Rattle.std.proofs.lemmas.Bool.{eq-eqb, eqb-true, false≢true}
use Rattle.std.proofs.lemmas.List.{append-nil}
use Rattle.std.proofs.Math.Seq.{take-append_seam}
use Rattle.std.proofs.lemmas.List.Elements.{filter_agree}
use Rattle.std.proofs.lemmas.List.Folds.{find-append, fold_stays, fold_stuck}
use Rattle.std.proofs.lemmas.List.Sums.{fold_more}
use Rattle.references.specs.declared.kind.Kind.{Kind}
use Rattle.references.specs.declared.name.NodeName.{NodeName}
use Rattle.references.specs.declared.name.Entry.{Entry}
use Rattle.references.specs.Identifier.{Identifier, kind_number, text_of}
use Rattle.references.specs.Series.{FitsPlaces, id_at, last_serial}
use Rattle.references.specs.Handed.{Handed, handed, given, is_named, is_node_kind, has_text_at, name_with, with_entry}
use Rattle.references.specs.HandedAll.{named, and_one, handed_all, is_new, new_count, serials_left, taken_back, Extends}
use Rattle.references.specs.Issued.{AreIssued}
use Rattle.references.specs.Laws.{AllOrNothing, AllIsFound, AllKeepsFound}
use Rattle.references.proofs.Counting.{is_other, count_one, filter_both}
use Rattle.references.proofs.Issuing.{issued_entry}
use Rattle.references.proofs.References.{handed_ways, longer_map, handed_out_is_found}

-- ---- what stays

pub extends_itself : (h : Handed) → Extends h h
extends_itself h = record { run = refl; session = refl; first = refl; spent = refl; entries = ([], sym (append-nil h.entries)) }

extends_on : (h g k : Handed) → Extends h g → Extends g k → Extends h k
extends_on h g k a b = record {
  run = b.run ∙ a.run;
  session = b.session ∙ a.session;
  first = b.first ∙ a.first;
  spent = b.spent ∙ a.spent;
  entries = ((a.entries).0 ++ (b.entries).0, (b.entries).1 ∙ ap (λ es. es ++ (b.entries).0) (a.entries).1 ∙ append_assoc h.entries (a.entries).0 (b.entries).0);
}

handed_extends : (h g : Handed) (kind : Kind) (name : NodeName) (id : Identifier) → handed h kind name ≡ Some (id, g) → Extends h g
handed_extends h g kind name id e = elim (handed_ways h g kind name id e) [
  | inl w ↦ subst (Extends h) w.3 (extends_itself h)
  | inr w ↦ subst (Extends h) w.3 (record { run = refl; session = refl; first = refl; spent = refl; entries = (_, refl) })
]

nothing_stays : (kind : Kind) (document : ℕ) (ns : List ℕ) → fold (and_one kind document) None ns ≡ None
nothing_stays kind document ns = fold_stays (and_one kind document) None (λ n. refl) ns

fold_extends : (kind : Kind) (document : ℕ) (ns : List ℕ) (p q : List Identifier × Handed) → fold (and_one kind document) (Some p) ns ≡ Some q → Extends p.1 q.1
fold_extends kind document [] p q e =
    let s : ◌≡◌ {A = List Identifier × Handed} p q = cc in subst (Extends p.1) (ap (λ (r : List Identifier × Handed). r.1) s) (extends_itself p.1)
fold_extends kind document (n ∷ ns) p q e = by (λ r. fold_extends kind document ns r q) (handed p.1 kind (named document n)) refl e
  where
    by : ((r : List Identifier × Handed) → fold (and_one kind document) (Some r) ns ≡ Some q → Extends r.1 q.1) → (o : Option (Identifier × Handed)) → handed p.1 kind (named document n) ≡ o
        → fold (and_one kind document) (option_map (λ (r : Identifier × Handed). (p.0 ++ r.0 ∷ [], r.1)) o) ns ≡ Some q → Extends p.1 q.1
    by more None f e = let s = nothing_stays kind document ns in absurd (cc)
    by more (Some r) f e = extends_on p.1 r.1 q.1 (handed_extends p.1 r.1 kind (named document n) r.0 f) (more (p.0 ++ r.0 ∷ [], r.1) e)

pub all_extends : (h g : Handed) (kind : Kind) (document : ℕ) (ns : List ℕ) (ids : List Identifier) → handed_all h kind document ns ≡ Some (ids, g) → Extends h g
unfolding handed_all
all_extends h g kind document ns ids e = fold_extends kind document ns ([], h) (ids, g) e

-- ---- how many serials are taken

-- by that many new names
abbrev pub EndsBy : Handed → ℕ → Option (List Identifier × Handed) → Type 0
EndsBy h count None = serials_left h.ids < count
EndsBy h count (Some q) = (q.1.ids.next ≡ h.ids.next + count) × (q.1.ids.next ≤ last_serial)

known_count : (h : Handed) (kind : Kind) (document n : ℕ) (ns : List ℕ) (e : Entry) → find (is_named kind (named document n)) h.entries ≡ Some e → new_count h kind document (n ∷ ns) ≡ new_count h kind document ns
known_count h kind document n ns e f = rw f refl

module _ (h : Handed) (kind : Kind) (document n : ℕ) where
  abbrev more : Handed
  more = with_entry h kind (named document n)

  abbrev entry : Entry
  entry = record { kind = kind; name = named document n; serial = h.ids.next }

  entry_named : (m : ℕ) → is_named kind (named document m) entry ≡ nat_eq n m
  entry_named m =
      ap (λ b. b && (nat_eq document document && nat_eq n m)) (eq-eqb (kind_number kind) (kind_number kind) refl)
      ∙ ap (λ b. b && nat_eq n m) (eq-eqb document document refl)

  new_then : (m : ℕ) → is_new more kind document m ≡ (is_new h kind document m && is_other n m)
  new_then m =
      ap (λ o. not (is_some o)) (find-append (is_named kind (named document m)) h.entries (entry ∷ []))
      ∙ by (find (is_named kind (named document m)) h.entries)
    where
      tests : (b : Bool) → not (is_some (cond b (Some entry) None)) ≡ not b
      tests true = refl
      tests false = refl

      by : (o : Option Entry) → not (is_some (option_or o (find (is_named kind (named document m)) (entry ∷ [])))) ≡ (not (is_some o) && is_other n m)
      by (Some d) = refl
      by None = ap (λ b. not (is_some (cond b (Some entry) None))) (entry_named m) ∙ tests (nat_eq n m)

  counts_one : (ns : List ℕ) → find (is_named kind (named document n)) h.entries ≡ None → new_count h kind document (n ∷ ns) ≡ suc (new_count more kind document ns)
  counts_one ns f =
      rw f (count_one n (filter (is_new h kind document) ns)
      ∙ ap (λ xs. suc (distinct_count nat_eq xs)) (sym (filter_agree _ _ new_then ns ∙ filter_both (is_new h kind document) (is_other n) ns)))

ends_more : (h g : Handed) (count : ℕ) (o : Option (List Identifier × Handed)) → g.ids.next ≡ h.ids.next + 1 → h.ids.next < last_serial → EndsBy g count o → EndsBy h (suc count) o
ends_more h g count None e l t = omega arith
ends_more h g count (Some q) e l t = let a = t.0 in let b = t.1 in (omega arith, omega arith)

-- the nodes after one that got that
abbrev then_all : Kind → ℕ → List ℕ → List Identifier → Option (Identifier × Handed) → Option (List Identifier × Handed)
then_all kind document ns ids o = fold (and_one kind document) (option_map (λ (r : Identifier × Handed). (ids ++ r.0 ∷ [], r.1)) o) ns

fold_ends : (kind : Kind) (document : ℕ) (ns : List ℕ) (ids : List Identifier) (h : Handed) → h.ids.next ≤ last_serial → EndsBy h (new_count h kind document ns) (fold (and_one kind document) (Some (ids, h)) ns)
unfolding handed
fold_ends kind document [] ids h l = (omega arith, l)
fold_ends kind document (n ∷ ns) ids h l = by (fold_ends kind document ns) (find (is_named kind (named document n)) h.entries) refl
  where
    fresh : ((js : List Identifier) (g : Handed) → g.ids.next ≤ last_serial → EndsBy g (new_count g kind document ns) (fold (and_one kind document) (Some (js, g)) ns))
        → find (is_named kind (named document n)) h.entries ≡ None → (b : Bool) → (h.ids.next == last_serial) ≡ b
        → EndsBy h (new_count h kind document (n ∷ ns)) (then_all kind document ns ids (if◌then◌else◌ {A = Option (Identifier × Handed)} b None (Some (id_at h.ids kind h.ids.next, with_entry h kind (named document n)))))
    fresh rest f true e =
        let last : h.ids.next ≡ last_serial = eqb-true _ _ e in
        let none : then_all kind document ns ids None ≡ None = nothing_stays kind document ns in
        subst (EndsBy h (new_count h kind document (n ∷ ns))) (sym none)
        (subst (λ c. serials_left h.ids < c) (sym (counts_one h kind document n ns f)) (omega arith))
    fresh rest f false e =
        let left : h.ids.next ≢ last_serial = (λ p. false≢true (sym e ∙ eq-eqb _ _ p)) in
        let under : h.ids.next < last_serial = omega (arith, left) in
        let g = with_entry h kind (named document n) in
        let o = then_all kind document ns ids (Some (id_at h.ids kind h.ids.next, g)) in
        subst (λ c. EndsBy h c o) (sym (counts_one h kind document n ns f))
        (ends_more h g (new_count g kind document ns) o refl under (rest _ g (omega arith)))

    by : ((js : List Identifier) (g : Handed) → g.ids.next ≤ last_serial → EndsBy g (new_count g kind document ns) (fold (and_one kind document) (Some (js, g)) ns))
        → (o : Option Entry) → find (is_named kind (named document n)) h.entries ≡ o → EndsBy h (new_count h kind document (n ∷ ns)) (then_all kind document ns ids (given h kind (named document n) o))
    by rest (Some d) f = subst (λ c. EndsBy h c (then_all kind document ns ids (given h kind (named document n) (Some d)))) (sym (known_count h kind document n ns d f)) (rest _ h l)
    by rest None f = fresh rest f (h.ids.next == last_serial) refl

pub all_ends : (h : Handed) (kind : Kind) (document : ℕ) (ns : List ℕ) → h.ids.next ≤ last_serial → EndsBy h (new_count h kind document ns) (handed_all h kind document ns)
unfolding handed_all
all_ends h kind document ns l = fold_ends kind document ns [] h l

-- what was there is left where all that was added is taken back
pub back_to : (h g : Handed) → Extends h g → taken_back g (length h.entries) h.ids.next ≡ h
back_to h g e =
    let cut : take (length h.entries) g.entries ≡ h.entries = ap (take (length h.entries)) (e.entries).1 ∙ take-append_seam h.entries (e.entries).0 in
    made g.ids.run h.ids.run g.ids.session h.ids.session g.first h.first (take (length h.entries) g.entries) h.entries g.spent h.spent e.run e.session e.first cut e.spent
  where
    made : (r q s t f d : ℕ) (x y : List Entry) (a b : Bool) → r ≡ q → s ≡ t → f ≡ d → x ≡ y → a ≡ b
        → ◌≡◌ {A = Handed} (record { ids = record { run = r; session = s; next = h.ids.next }; first = f; entries = x; spent = a }) (record { ids = record { run = q; session = t; next = h.ids.next }; first = d; entries = y; spent = b })
    made r q s t f d x y a b i j k l m = rw (i, j, k, l, m) refl

-- ---- one node more

module _ (h g : Handed) (kind : Kind) (document : ℕ) (ns : List ℕ) (i : ℕ) (ids : List Identifier) (within : i < length ns) (so_far : handed_all h kind document (take i ns) ≡ Some (ids, g)) where
  pub all_more : (k : Handed) (id : Identifier) → handed g kind (named document (get_or ns i 0)) ≡ Some (id, k) → handed_all h kind document (take (i + 1) ns) ≡ Some (ids ++ id ∷ [], k)
  unfolding handed_all
  all_more k id e =
      fold_more (and_one kind document) (Some ([], h)) ns i 0 within ∙ ap (λ o. and_one kind document o (get_or ns i 0)) so_far
      ∙ ap (λ o. option_map (λ (q : Identifier × Handed). (ids ++ q.0 ∷ [], q.1)) o) e

  pub all_none : handed g kind (named document (get_or ns i 0)) ≡ None → handed_all h kind document ns ≡ None
  unfolding handed_all
  all_none e =
      sym (fold_stuck (and_one kind document) None (λ n. refl) (Some ([], h)) ns i 0 within
      (ap (λ o. and_one kind document o (get_or ns i 0)) so_far ∙ ap (λ o. option_map (λ (q : Identifier × Handed). (ids ++ q.0 ∷ [], q.1)) o) e))

pub all_begun : (h : Handed) (kind : Kind) (document : ℕ) → handed_all h kind document [] ≡ Some ([], h)
unfolding handed_all
all_begun h kind document = refl

-- ---- the serials

module _ (h : Handed) (kind : Kind) (document : ℕ) (ns : List ℕ) (fit : FitsPlaces h.ids) where
  ends : EndsBy h (new_count h kind document ns) (handed_all h kind document ns)
  ends = let f = fit in all_ends h kind document ns (omega arith)

  pub taken_is : (g : Handed) (ids : List Identifier) → handed_all h kind document ns ≡ Some (ids, g) → g.ids.next ≡ h.ids.next + new_count h kind document ns
  taken_is g ids e = (subst (EndsBy h (new_count h kind document ns)) e ends).0

  pub enough_is : (g : Handed) (ids : List Identifier) → handed_all h kind document ns ≡ Some (ids, g) → new_count h kind document ns ≤ serials_left h.ids
  enough_is g ids e = let t = subst (EndsBy h (new_count h kind document ns)) e ends in omega arith

  pub short_is : handed_all h kind document ns ≡ None → serials_left h.ids < new_count h kind document ns
  short_is e = subst (EndsBy h (new_count h kind document ns)) e ends

pub all_or_nothing : AllOrNothing
all_or_nothing h kind document ns fit = (short_is h kind document ns fit, λ l. by (handed_all h kind document ns) refl l)
  where
    by : (o : Option (List Identifier × Handed)) → handed_all h kind document ns ≡ o → serials_left h.ids < new_count h kind document ns → handed_all h kind document ns ≡ None
    by None e l = e
    by (Some q) e l = let t = enough_is h kind document ns fit q.1 q.0 e in absurd (omega arith)

handed_issued : (h g : Handed) (kind : Kind) (name : NodeName) (id : Identifier) → AreIssued h → is_node_kind kind ≡ true → handed h kind name ≡ Some (id, g) → AreIssued g
handed_issued h g kind name id i k e = elim (handed_ways h g kind name id e) [
  | inl w ↦ subst AreIssued w.3 i
  | inr w ↦ subst AreIssued w.3 (issued_entry h i w.1 kind name k w.0)
]

extended_keeps_found : (h g : Handed) (other : Kind) (node : NodeName) (text : List ℕ) → Extends h g → name_with h other text ≡ Some node → name_with g other text ≡ Some node
extended_keeps_found h g other node text x f = rw (x.run, x.session, (x.entries).1) (longer_map (has_text_at h.ids other text) h.entries (x.entries).0 node f)

-- the identifiers that are added, each of which finds its node
abbrev Finds : Kind → ℕ → List ℕ → List Identifier × Handed → List Identifier × Handed → Type 0
Finds kind document ns p q =
    (added : List Identifier) × (q.0 ≡ p.0 ++ added) × AllZip (λ id n. name_with q.1 kind (text_of id) ≡ Some (named document n)) added ns

fold_finds : (kind : Kind) (document : ℕ) → is_node_kind kind ≡ true → (ns : List ℕ) (p q : List Identifier × Handed) → AreIssued p.1 → fold (and_one kind document) (Some p) ns ≡ Some q → Finds kind document ns p q
fold_finds kind document k [] p q i e =
    let s : ◌≡◌ {A = List Identifier × Handed} p q = cc in
    ([], ap (λ (r : List Identifier × Handed). r.0) (sym s) ∙ sym (append-nil p.0), tt)
fold_finds kind document k (n ∷ ns) p q i e = by (λ r. fold_finds kind document k ns r q) (handed p.1 kind (named document n)) refl e
  where
    by : ((r : List Identifier × Handed) → AreIssued r.1 → fold (and_one kind document) (Some r) ns ≡ Some q → Finds kind document ns r q)
        → (o : Option (Identifier × Handed)) → handed p.1 kind (named document n) ≡ o
        → fold (and_one kind document) (option_map (λ (r : Identifier × Handed). (p.0 ++ r.0 ∷ [], r.1)) o) ns ≡ Some q → Finds kind document (n ∷ ns) p q
    by more None f e = let s = nothing_stays kind document ns in absurd (cc)
    by more (Some r) f e =
        let m = more (p.0 ++ r.0 ∷ [], r.1) (handed_issued p.1 r.1 kind (named document n) r.0 i k f) e in
        let x = fold_extends kind document ns (p.0 ++ r.0 ∷ [], r.1) q e in
        let head = extended_keeps_found r.1 q.1 kind (named document n) (text_of r.0) x (handed_out_is_found p.1 r.1 kind (named document n) r.0 i k f) in
        (r.0 ∷ m.0, m.1 ∙ append_assoc p.0 (r.0 ∷ []) m.0, (head, m.2))

pub all_is_found : AllIsFound
unfolding handed_all
all_is_found h g kind document ns ids i k e =
    let f = fold_finds kind document k ns ([], h) (ids, g) i e in
    subst (λ js. AllZip (λ id n. name_with g kind (text_of id) ≡ Some (named document n)) js ns) (sym f.1) f.2

pub all_keeps_found : AllKeepsFound
all_keeps_found h g kind other document ns ids node text e f =
    extended_keeps_found h g other node text (all_extends h g kind document ns ids e) f
