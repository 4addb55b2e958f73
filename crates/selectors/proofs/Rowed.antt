-- The reading of items one behind another answers exactly what the relation says, if the reading of one does, and takes something away.
use Rattle.std.proofs.Common.{◌≡◌, ◌∙◌, subst, ℕ, ◌<◌, ◌≤◌, zero, suc, Bool, true, false, cond, Option, Some, None, List, [], ◌∷◌, ◌++◌, append_assoc, append-nil, length, refl, sym, ap, arith}
use Rattle.std.proofs.lemmas.Bool.{true≢false}
use Rattle.std.proofs.lemmas.Option.{some_pair_parts}
use Rattle.selectors.specs.Grammar.{RowIs, none, more}
use Rattle.selectors.specs.ReadingSimples.{◌>>=◌, items_at, row_at, in_front}
use Rattle.selectors.proofs.Binds.{bind_ok, either, made_of, cond_true, cond_false}

-- an item that is read takes something away
abbrev pub Shrinks : (A : Type 0) → (List ℕ → Option (A × List ℕ)) → Type 0
Shrinks A item_at = (text : List ℕ) (item : A) (rest : List ℕ) → item_at text ≡ Some (item, rest) → length rest < length text

abbrev pub Finds : (A : Type 0) → (List ℕ → A → List ℕ → Type 0) → (List ℕ → Option (A × List ℕ)) → Type 0
Finds A Is item_at = (text : List ℕ) (item : A) (rest : List ℕ) → Is text item rest → item_at text ≡ Some (item, rest)

abbrev pub Sound : (A : Type 0) → (List ℕ → A → List ℕ → Type 0) → (List ℕ → Option (A × List ℕ)) → Type 0
Sound A Is item_at = (text : List ℕ) (item : A) (rest : List ℕ) → item_at text ≡ Some (item, rest) → Is text item rest

module _ (A : Type 0) (test : List ℕ → Bool) (item_at : List ℕ → Option (A × List ℕ)) (empty : test [] ≡ false) (shrinks : Shrinks A item_at) where
  -- the most that there may be doesn't matter, if it is no less than the text is long
  items_same : (m n : ℕ) (text : List ℕ) → length text ≤ m → length text ≤ n → items_at test item_at m text ≡ items_at test item_at n text
  unfolding items_at
  items_same zero zero text h k = refl
  items_same zero (suc n) [] h k = sym (cond_false (test []) _ _ empty)
  items_same (suc m) zero [] h k = cond_false (test []) _ _ empty
  items_same zero (suc n) (c ∷ text) h k = absurd (omega arith)
  items_same (suc m) zero (c ∷ text) h k = absurd (omega arith)
  items_same (suc m) (suc n) text h k = ap (λ o. cond (test text) o (Some ([], text))) (go (item_at text) refl (λ rest p q. items_same m n rest p q))
    where
      go : (o : Option (A × List ℕ)) → item_at text ≡ o → ((rest : List ℕ) → length rest ≤ m → length rest ≤ n → items_at test item_at m rest ≡ items_at test item_at n rest)
          → ◌≡◌ {A = Option (List A × List ℕ)} (o >>= λ x. items_at test item_at m x.1 >>= λ y. Some (x.0 ∷ y.0, y.1)) (o >>= λ x. items_at test item_at n x.1 >>= λ y. Some (x.0 ∷ y.0, y.1))
      go None e ih = refl
      go (Some x) e ih = let s : length x.1 < length text = shrinks text x.0 x.1 e in ap (λ o. o >>= λ y. Some (x.0 ∷ y.0, y.1)) (ih x.1 (omega arith) (omega arith))

  pub row_ends : (text : List ℕ) → test text ≡ false → row_at test item_at text ≡ Some ([], text)
  unfolding items_at
  row_ends [] e = refl
  row_ends (c ∷ text) e = cond_false (test (c ∷ text)) _ _ e

  pub row_goes : (text : List ℕ) → test text ≡ true → row_at test item_at text ≡ (item_at text >>= λ x. row_at test item_at x.1 >>= λ y. Some (x.0 ∷ y.0, y.1))
  unfolding items_at
  row_goes [] e = absurd (true≢false (sym e ∙ empty))
  row_goes (c ∷ text) e = cond_true (test (c ∷ text)) _ _ e ∙ go (item_at (c ∷ text)) refl
    where
      go : (o : Option (A × List ℕ)) → item_at (c ∷ text) ≡ o → ◌≡◌ {A = Option (List A × List ℕ)} (o >>= λ x. items_at test item_at (length text) x.1 >>= λ y. Some (x.0 ∷ y.0, y.1)) (o >>= λ x. row_at test item_at x.1 >>= λ y. Some (x.0 ∷ y.0, y.1))
      go None e = refl
      go (Some x) e = let s : length x.1 < suc (length text) = shrinks (c ∷ text) x.0 x.1 e in ap (λ o. o >>= λ y. Some (x.0 ∷ y.0, y.1)) (items_same (length text) (length x.1) x.1 (omega arith) (omega arith))

module _ (A : Type 0) (Is : List ℕ → A → List ℕ → Type 0) (test : List ℕ → Bool) (item_at : List ℕ → Option (A × List ℕ)) (empty : test [] ≡ false) (shrinks : Shrinks A item_at) where
  pub row_finds : Finds A Is item_at → ((text : List ℕ) (item : A) (rest : List ℕ) → Is text item rest → test text ≡ true)
      → (text : List ℕ) (items : List A) (rest : List ℕ) → RowIs A Is text items rest → test rest ≡ false → row_at test item_at text ≡ Some (items, rest)
  row_finds finds begun _ _ _ (none rest) e = row_ends A test item_at empty shrinks rest e
  row_finds finds begun _ _ _ (more text item middle others rest h r) e =
      row_goes A test item_at empty shrinks text (begun text item middle h)
      ∙ ap (λ o. o >>= λ x. row_at test item_at x.1 >>= λ y. Some (x.0 ∷ y.0, y.1)) (finds text item middle h)
      ∙ ap (λ o. o >>= λ y. Some (item ∷ y.0, y.1)) (row_finds finds begun middle others rest r e)

  items_sound : Sound A Is item_at → (n : ℕ) (text : List ℕ) (items : List A) (rest : List ℕ) → length text ≤ n → items_at test item_at n text ≡ Some (items, rest) → RowIs A Is text items rest × (test rest ≡ false)
  unfolding items_at
  items_sound sound zero [] items rest h e = let p = some_pair_parts [] items [] rest e in (subst (λ i. RowIs A Is [] i rest) p.0 (subst (λ r. RowIs A Is [] [] r) p.1 (none [])), ap test (sym p.1) ∙ empty)
  items_sound sound zero (c ∷ text) items rest h e = absurd (omega arith)
  items_sound sound (suc n) text items rest h e = either _ (test text) _ (Some ([], text)) (items, rest) (λ t s. one s (λ r i q k d. items_sound sound n r i q k d)) (λ t s. let p = some_pair_parts [] items text rest s in (subst (λ i. RowIs A Is text i rest) p.0 (subst (λ r. RowIs A Is text [] r) p.1 (none text)), ap test (sym p.1) ∙ t)) e
    where
      one : ◌≡◌ {A = Option (List A × List ℕ)} (item_at text >>= λ x. items_at test item_at n x.1 >>= λ y. Some (x.0 ∷ y.0, y.1)) (Some (items, rest))
          → ((r : List ℕ) (i : List A) (q : List ℕ) → length r ≤ n → items_at test item_at n r ≡ Some (i, q) → RowIs A Is r i q × (test q ≡ false)) → RowIs A Is text items rest × (test rest ≡ false)
      one s ih =
          let a = bind_ok (item_at text) (λ x. items_at test item_at n x.1 >>= λ y. Some (x.0 ∷ y.0, y.1)) (items, rest) s in
          let m = made_of (items_at test item_at n a.0.1) (λ y. a.0.0 ∷ y) items rest a.2 in
          let l : length a.0.1 < length text = shrinks text a.0.0 a.0.1 a.1 in
          let r = ih a.0.1 m.0 rest (omega arith) m.1 in
          (subst (λ i. RowIs A Is text i rest) (sym m.2) (more text a.0.0 a.0.1 m.0 rest (sound text a.0.0 a.0.1 a.1) r.0), r.1)

  pub row_sound : Sound A Is item_at → (text : List ℕ) (items : List A) (rest : List ℕ) → row_at test item_at text ≡ Some (items, rest) → RowIs A Is text items rest × (test rest ≡ false)
  row_sound sound text items rest e = items_sound sound (length text) text items rest (omega arith) e

-- nothing grows
pub row_shrinks : (A : Type 0) (Is : List ℕ → A → List ℕ → Type 0) → ((text : List ℕ) (item : A) (rest : List ℕ) → Is text item rest → length rest < length text) → (text : List ℕ) (items : List A) (rest : List ℕ) → RowIs A Is text items rest → length rest ≤ length text
row_shrinks A Is less _ _ _ (none rest) = omega arith
row_shrinks A Is less _ _ _ (more text item middle others rest h r) = let a : length middle < length text = less text item middle h in let b : length rest ≤ length middle = row_shrinks A Is less middle others rest r in omega arith

-- ---- a loop over items, with those that it has so far in front

in_front_more : (A : Type 0) (front : List A) (item : A) (read : Option (List A × List ℕ)) → in_front (front ++ item ∷ []) read ≡ in_front front (read >>= λ y. Some (item ∷ y.0, y.1))
in_front_more A front item None = refl
in_front_more A front item (Some y) = ap (λ i. Some (i, y.1)) (append_assoc front (item ∷ []) y.0)

module _ (A : Type 0) (test : List ℕ → Bool) (item_at : List ℕ → Option (A × List ℕ)) (empty : test [] ≡ false) (shrinks : Shrinks A item_at) where
  pub front_goes : (front : List A) (text : List ℕ) (item : A) (rest : List ℕ) → test text ≡ true → item_at text ≡ Some (item, rest) → in_front (front ++ item ∷ []) (row_at test item_at rest) ≡ in_front front (row_at test item_at text)
  front_goes front text item rest t e =
      in_front_more A front item (row_at test item_at rest)
      ∙ ap (in_front front) (sym (row_goes A test item_at empty shrinks text t ∙ ap (λ o. o >>= λ x. row_at test item_at x.1 >>= λ y. Some (x.0 ∷ y.0, y.1)) e))

  pub front_fails : (front : List A) (text : List ℕ) → test text ≡ true → item_at text ≡ None → in_front front (row_at test item_at text) ≡ None
  front_fails front text t e = ap (in_front front) (row_goes A test item_at empty shrinks text t ∙ ap (λ o. o >>= λ x. row_at test item_at x.1 >>= λ y. Some (x.0 ∷ y.0, y.1)) e)

  pub front_ends : (front : List A) (text : List ℕ) → test text ≡ false → in_front front (row_at test item_at text) ≡ Some (front, text)
  front_ends front text t = ap (in_front front) (row_ends A test item_at empty shrinks text t) ∙ ap (λ f. Some (f, text)) (append-nil front)

pub front_none : {A : Type 0} (read : Option (List A × List ℕ)) → in_front [] read ≡ read
front_none None = refl
front_none (Some x) = refl
