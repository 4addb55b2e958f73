-- The addresses of entries: that they differ, and their places in the index.
use Rattle.std.proofs.Common.{◌≡◌, ℕ, suc, ◌<◌, ◌≤◌, Bool, true, false, cond, List, [], ◌∷◌, ◌++◌, Some, None, Ok, Err, length, get_or, refl, sym, ap, ◌∙◌, arith}
use Rattle.std.proofs.lemmas.Bool.{and_parts, or_parts}
use Rattle.std.specs.Prelude.{not, nat_lt, is_some, String, if◌then◌else◌}
use Rattle.std.specs.List.{list_any, position, position_or_len}
use Rattle.std.specs.HashMap.{HashMap, get_by_text}
use Rattle.std.specs.Map.{update}
use Rattle.std.specs.Str.{bytes_eq}
use Rattle.std.specs.Cmp.Lexicographic.{bytes_decides, nat_list_eq_equiv}
use Rattle.std.proofs.lemmas.Bool.Decides.{nat_tests}
use Rattle.std.proofs.lemmas.List.{length_push}
use Rattle.std.proofs.lemmas.List.Sums.{fails_before_first}
use Rattle.std.proofs.lemmas.List.Folds.{list_any-append, position_or_len_push}
use Rattle.page_file.proofs.Rows.{kept_if}
use Rattle.page_file.specs.Index.{IsIndexOf}
use Rattle.page_file.specs.Listings.{entry_of, names_page, next_entry, entries_differ}
use Rattle.page_file.specs.Rows.{or_fault}
use Rattle.page_file.specs.declared.listing.Entry.{Entry}
use Rattle.page_file.specs.declared.why.Why.TheVariants.{Address}
use Rattle.wd_json.specs.declared.value.Json.{Json}

module _ {X : Type 0} (p : X → Bool) where
  pub position_keep : (xs : List X) (y : X) → p y ≡ false → position p (xs ++ y ∷ []) ≡ position p xs
  position_keep xs y e = grind (arith, e, position_or_len_push p xs y, length_push xs y)

module _ {X : Type 0} (p : X → Bool) (xs : List X) where
  at_place : (n k : ℕ) (b : Bool) → nat_lt n (length xs) ≡ b → cond b (Some n) None ≡ Some k → k < length xs
  at_place n k true is h = let same : n ≡ k = cc in grind (arith, nat_tests, is, same)
  at_place n k false is h = cc

  -- the place of the first is one in the list
  pub place_within : (k : ℕ) → position p xs ≡ Some k → k < length xs
  place_within k found = at_place (position_or_len p xs) k (nat_lt (position_or_len p xs) (length xs)) refl found

-- an address that no entry has may stand behind them
pub differ_more : (entries : List Entry) (e : Entry) → entries_differ entries ≡ true → list_any (names_page e.address) entries ≡ false → entries_differ (entries ++ e ∷ []) ≡ true
differ_more [] e differ new = refl
differ_more (x ∷ xs) e differ new =
    let was = and_parts (not (list_any (names_page x.address) xs)) (entries_differ xs) differ in
    let apart = or_parts (bytes_eq x.address e.address) (list_any (names_page e.address) xs) new in
    let turned : bytes_eq e.address x.address ≡ false = nat_list_eq_equiv.symm e.address x.address ∙ apart.0 in
    let none : list_any (names_page x.address) (xs ++ e ∷ []) ≡ false =
    list_any-append (names_page x.address) xs (e ∷ []) ∙ grind (arith, was.0, turned) in
    rw none (differ_more xs e was.1 apart.1)

-- no place, no entry; no entry, no place
module _ {X : Type 0} (p : X → Bool) where
  any_none : (xs : List X) → ((k : ℕ) (d : X) → k < length xs → p (get_or xs k d) ≡ false) → list_any p xs ≡ false
  any_none [] h = refl
  any_none (x ∷ xs) h = rw (h 0 x (omega arith)) (any_none xs (λ k d within. h (suc k) d (omega arith)))

  not_within : (b : Bool) (i : ℕ) → cond b (Some i) None ≡ None → b ≡ false
  not_within true i h = cc
  not_within false i h = refl

  pub no_entry : (xs : List X) → position p xs ≡ None → list_any p xs ≡ false
  no_entry xs none =
      let past : nat_lt (position_or_len p xs) (length xs) ≡ false = not_within (nat_lt (position_or_len p xs) (length xs)) (position_or_len p xs) none in
      let far : length xs ≤ position_or_len p xs = grind (arith, past) in
      any_none xs (λ k d within. fails_before_first p xs k d (omega arith))

  at_end : (xs : List X) → list_any p xs ≡ false → position_or_len p xs ≡ length xs
  at_end [] h = refl
  at_end (x ∷ xs) h = let parts = or_parts (p x) (list_any p xs) h in rw parts.0 (omega (arith, at_end xs parts.1))

  pub position_new : (xs : List X) (y : X) → p y ≡ true → position p xs ≡ None → position p (xs ++ y ∷ []) ≡ Some (length xs)
  position_new xs y e none =
      let last = at_end xs (no_entry xs none) in
      grind (arith, e, last, position_or_len_push p xs y, length_push xs y)

  pub no_place : (xs : List X) → list_any p xs ≡ false → position p xs ≡ None
  no_place xs h = let last = at_end xs h in grind (arith, last)

module _ {Y S : Type 0} (old new : HashMap (String Y) ℕ S) where
  -- the index with one entry more
  pub index_more : (entries : List Entry) (e : Entry) → IsIndexOf entries old → get_by_text old e.address ≡ None
      → ((q : List ℕ) → get_by_text new q ≡ update bytes_eq (get_by_text old) e.address (Some (length entries)) q) → IsIndexOf (entries ++ e ∷ []) new
  index_more entries e index none sets q = sets q ∙ at (bytes_eq e.address q) refl
    where
      at : (b : Bool) → bytes_eq e.address q ≡ b → cond b (Some (length entries)) (get_by_text old q) ≡ position (names_page q) (entries ++ e ∷ [])
      at true same =
          let is : e.address ≡ q = (bytes_decides e.address q).0 same in
          sym (position_new (names_page q) entries e same (sym (index q) ∙ ap (get_by_text old) (sym is) ∙ none))
      at false differs = index q ∙ sym (position_keep (names_page q) entries e differs)

-- some entry has the address where the index has a place for it
some_at : (entries : List Entry) (address : List ℕ) → is_some (position (names_page address) entries) ≡ true → list_any (names_page address) entries ≡ true
some_at entries address there = at (list_any (names_page address) entries) refl
  where
    at : (b : Bool) → list_any (names_page address) entries ≡ b → list_any (names_page address) entries ≡ true
    at true e = e
    at false e = absurd (let f : false ≡ true = sym (ap is_some (no_place (names_page address) entries e)) ∙ there in cc)

module _ {Y S : Type 0} (m : HashMap (String Y) ℕ S) (entries : List Entry) (e : Entry) (v : Json) (b : List ℕ) (index : IsIndexOf entries m) (spelled : entry_of v ≡ Some e) (is : b ≡ e.address) where
  by_test : (c : Bool) → list_any (names_page e.address) entries ≡ c → next_entry entries v ≡ or_fault Address (if not c then Some e else None)
  by_test c has = kept_if (λ (entry : Entry). not (list_any (names_page entry.address) entries)) Address (entry_of v) e (not c) spelled (ap not has)

  -- the address of an entry, as the index has it, is that of one of these
  pub known_entry : is_some (get_by_text m b) ≡ true → next_entry entries v ≡ Err Address
  known_entry there = by_test true (some_at entries e.address (ap (λ q. is_some (position (names_page q) entries)) (sym is) ∙ ap is_some (sym (index b)) ∙ there))

  -- it is that of none of these
  pub new_entry : get_by_text m b ≡ None → next_entry entries v ≡ Ok e
  new_entry none = by_test false (no_entry (names_page e.address) entries (ap (λ q. position (names_page q) entries) (sym is) ∙ sym (index b) ∙ none))
