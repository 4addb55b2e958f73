-- Lists gone over item by item.
use Rattle.std.proofs.Common.{◌≡◌, ℕ, suc, ◌+◌, ◌<◌, ◌≤◌, Bool, true, false, cond, List, [], ◌∷◌, ◌++◌, Some, length, drop, get_or, add-one, drop-cons, sym, ap, subst, ◌∙◌, rules, append_assoc, append-nil}
use Rattle.std.specs.Prelude.{◌&&◌, ◌||◌, filter, slice_get}
use Rattle.std.specs.List.{All, list_any, list_all}
use Rattle.std.proofs.lemmas.List.{drop_all}
use Rattle.std.proofs.lemmas.List.Elements.{All-get_or, All-append}
use Rattle.std.proofs.lemmas.Option.{slice_get-get_or, slice_get_within}

pub drop_next : {X : Type 0} → (xs : List X) (i : ℕ) (x : X) → i < length xs → x ≡ get_or xs i x → drop i xs ≡ x ∷ drop (i + 1) xs
drop_next xs i x within read = drop-cons xs i x within ∙ ap (λ y. y ∷ drop (suc i) xs) (sym read) ∙ ap (λ k. x ∷ drop k xs) (sym (add-one i))

pub all_next : {X : Type 0} → (p : X → Bool) (xs : List X) (i : ℕ) (x : X) → i < length xs → x ≡ get_or xs i x → p x ≡ true → list_all p (drop i xs) ≡ list_all p (drop (i + 1) xs)
all_next p xs i x within read is = ap (list_all p) (drop_next xs i x within read) ∙ ap (λ b. b && list_all p (drop (i + 1) xs)) is

pub all_stop : {X : Type 0} → (p : X → Bool) (xs : List X) (i : ℕ) (x : X) → i < length xs → x ≡ get_or xs i x → p x ≡ false → list_all p (drop i xs) ≡ false
all_stop p xs i x within read is = ap (list_all p) (drop_next xs i x within read) ∙ ap (λ b. b && list_all p (drop (i + 1) xs)) is

pub all_end : {X : Type 0} → (p : X → Bool) (xs : List X) (i : ℕ) → length xs ≤ i → list_all p (drop i xs) ≡ true
all_end p xs i past = ap (list_all p) (drop_all i xs past)

pub any_next : {X : Type 0} → (p : X → Bool) (xs : List X) (i : ℕ) (x : X) → i < length xs → x ≡ get_or xs i x → p x ≡ false → list_any p (drop i xs) ≡ list_any p (drop (i + 1) xs)
any_next p xs i x within read is = ap (list_any p) (drop_next xs i x within read) ∙ ap (λ b. b || list_any p (drop (i + 1) xs)) is

pub any_stop : {X : Type 0} → (p : X → Bool) (xs : List X) (i : ℕ) (x : X) → i < length xs → x ≡ get_or xs i x → p x ≡ true → list_any p (drop i xs) ≡ true
any_stop p xs i x within read is = ap (list_any p) (drop_next xs i x within read) ∙ ap (λ b. b || list_any p (drop (i + 1) xs)) is

pub any_end : {X : Type 0} → (p : X → Bool) (xs : List X) (i : ℕ) → length xs ≤ i → list_any p (drop i xs) ≡ false
any_end p xs i past = ap (list_any p) (drop_all i xs past)

pub ruleset all_steps = (all_next, all_stop, all_end)

pub ruleset any_steps = (any_next, any_stop, any_end)

-- ---- a filter, with what was kept so far

pub kept_next : (p : ℕ → Bool) (xs found : List ℕ) (i x : ℕ) → i < length xs → x ≡ get_or xs i x → p x ≡ true → found ++ filter p (drop i xs) ≡ (found ++ x ∷ []) ++ filter p (drop (i + 1) xs)
kept_next p xs found i x within read is =
    ap (λ ys. found ++ filter p ys) (drop_next xs i x within read) ∙ ap (λ b. found ++ cond b (x ∷ filter p (drop (i + 1) xs)) (filter p (drop (i + 1) xs))) is
    ∙ sym (append_assoc found (x ∷ []) (filter p (drop (i + 1) xs)))

pub left_next : (p : ℕ → Bool) (xs : List ℕ) (i x : ℕ) → i < length xs → x ≡ get_or xs i x → p x ≡ false → filter p (drop i xs) ≡ filter p (drop (i + 1) xs)
left_next p xs i x within read is =
    ap (filter p) (drop_next xs i x within read) ∙ ap (λ b. cond b (x ∷ filter p (drop (i + 1) xs)) (filter p (drop (i + 1) xs))) is

pub kept_end : (p : ℕ → Bool) (xs : List ℕ) (i : ℕ) → length xs ≤ i → filter p (drop i xs) ≡ []
kept_end p xs i past = ap (filter p) (drop_all i xs past)

-- all that was kept, once the list was gone over
pub kept_whole : (p : ℕ → Bool) (xs found : List ℕ) (i : ℕ) → length xs ≤ i → filter p xs ≡ found ++ filter p (drop i xs) → filter p xs ≡ found
kept_whole p xs found i past same = same ∙ ap (λ ys. found ++ ys) (kept_end p xs i past) ∙ append-nil found

-- ---- what holds of each item

pub All-more : (P : ℕ → Type 0) (xs : List ℕ) (x : ℕ) → All P xs → P x → All P (xs ++ x ∷ [])
All-more P xs x each here = All-append P xs (x ∷ []) each (search rules)

pub All-at : (P : ℕ → Type 0) (xs : List ℕ) (k x : ℕ) → All P xs → slice_get xs k ≡ Some x → P x
All-at P xs k x each at =
    let within : k < length xs = slice_get_within xs k x at in
    let same : Some (get_or xs k x) ≡ Some x = sym (slice_get-get_or xs k x within) ∙ at in
    let item : get_or xs k x ≡ x = cc in
    subst P item (All-get_or P xs k x within each)
