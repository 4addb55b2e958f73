-- What is true of the references stays true when a serial is taken, and when a name is handed out.
use Rattle.std.proofs.Common.{◌≡◌, ◌≢◌, ◌+◌, ◌<◌, List, [], ◌∷◌, Bool, true, false, cond, Some, None, refl, arith}
use Rattle.std.specs.List.{All, find}
use Rattle.std.proofs.lemmas.List.Elements.{All-nil, All-cons, All-push, All-weaker}
use Rattle.std.proofs.lemmas.List.Quantifiers.{all_pairs_push}
use Rattle.references.specs.declared.kind.Kind.{Kind}
use Rattle.references.specs.declared.name.NodeName.{NodeName}
use Rattle.references.specs.declared.name.Entry.{Entry}
use Rattle.references.specs.Series.{Series, FitsPlaces, last_serial}
use Rattle.references.specs.Handed.{Handed, is_node_kind, is_named, after_next, with_entry}
use Rattle.references.specs.Issued.{IsIssued, AreIssued}

-- nothing is handed out yet
pub issued_none : (ids : Series) → FitsPlaces ids → AreIssued (record { ids = ids; first = ids.next; entries = []; spent = false })
issued_none ids f = record {
  fit = f;
  order = omega arith;
  each = All-nil (IsIssued (record { ids = ids; first = ids.next; entries = []; spent = false }));
  rise = λ i j d b l. absurd (omega arith);
  names = λ i j d b l. absurd (omega arith);
}

-- a test that finds nothing fails at each
pub none_passes : {X : Type 0} (p : X → Bool) (xs : List X) → find p xs ≡ None → All (λ x. p x ≡ false) xs
none_passes p [] h = All-nil (λ x. p x ≡ false)
none_passes p (x ∷ xs) h = by (none_passes p xs) (p x) refl h
  where
    by : (find p xs ≡ None → All (λ x. p x ≡ false) xs) → (b : Bool) → p x ≡ b → cond b (Some x) (find p xs) ≡ None → All (λ x. p x ≡ false) (x ∷ xs)
    by more true e h = absurd (cc)
    by more false e h = All-cons (λ x. p x ≡ false) x xs e (more h)

module _ (h : Handed) (issued : AreIssued h) (left : h.ids.next ≢ last_serial) where
  -- the next serial is taken
  fits_next : FitsPlaces (after_next h.ids)
  fits_next = let f = issued.fit in let l = left in record { run = f.run; session = f.session; next = omega arith }

  each_later : (k : Handed) → k.first ≡ h.first → k.ids.next ≡ h.ids.next + 1 → All (IsIssued k) h.entries
  each_later k f n = All-weaker (IsIssued h) (IsIssued k)
      (λ e i. record { node_kind = i.node_kind; from = omega (arith, i.from); below = omega (arith, i.below) }) h.entries issued.each

  pub issued_next : AreIssued (record h { ids = after_next h.ids })
  issued_next = let o = issued.order in record {
    fit = fits_next;
    order = omega arith;
    each = each_later (record h { ids = after_next h.ids }) refl refl;
    rise = issued.rise;
    names = issued.names;
  }

  -- a new name is handed out
  pub issued_entry : (kind : Kind) (name : NodeName) → is_node_kind kind ≡ true → find (is_named kind name) h.entries ≡ None → AreIssued (with_entry h kind name)
  issued_entry kind name k none =
      let o = issued.order in
      let e : Entry = record { kind = kind; name = name; serial = h.ids.next } in
      let g = with_entry h kind name in
      record {
        fit = fits_next;
        order = omega arith;
        each = All-push (IsIssued g) h.entries e (each_later g refl refl) (record { node_kind = k; from = o; below = omega arith });
        rise = all_pairs_push (λ (a b : Entry). a.serial < b.serial) h.entries e issued.rise
            (All-weaker (IsIssued h) (λ a. a.serial < e.serial) (λ a i. i.below) h.entries issued.each);
        names = all_pairs_push (λ (a b : Entry). is_named b.kind b.name a ≡ false) h.entries e issued.names
            (none_passes (is_named kind name) h.entries none);
      }
