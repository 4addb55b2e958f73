-- The first values, node by node.
use Rattle.std.proofs.Common.{◌≡◌, ℕ, zero, suc, ◌+◌, ◌<◌, true, false, List, [], ◌∷◌, ◌++◌, length, drop, refl, sym, ap, ◌∙◌, arith, append-nil}
use Rattle.std.specs.Prelude.{if◌then◌else◌, slice_get}
use Rattle.std.proofs.lemmas.List.{append_assoc, drop_all}
use Rattle.page_tree.specs.DocumentState.{DocumentState}
use Rattle.page_tree.specs.Rows.{Rows, is_element, is_element_kind, kind_at, content_at, or_shadow_root, change_at}
use Rattle.page_tree.specs.declared.content.Content.{Content}
use Rattle.page_engine.specs.Opening.{for_each}
use Rattle.page_engine.specs.FirstValues.{first_at, started, started_at, with_firsts}
use Rattle.page_engine.specs.declared.first.First.{First}
use Rattle.page_engine.proofs.Growth.{for_each-more, length-for_each}
use Rattle.page_engine.proofs.Filling.{written}

-- ---- one node
started_kind : (first : First) (n : ℕ) (xs : List Content) → is_element_kind (kind_at xs n) ≡ true → change_at n (started first) xs ≡ change_at n (λ c. record c { value = first.value; checked = first.checked }) xs
started_kind first n [] e = refl
started_kind first zero (x ∷ xs) e = ap (λ b. (if b then record x { value = first.value; checked = first.checked } else x) ∷ xs) e
started_kind first (suc n) (x ∷ xs) e = ap (λ cs. x ∷ cs) (started_kind first n xs e)

other_kind : (first : First) (n : ℕ) (xs : List Content) → is_element_kind (kind_at xs n) ≡ false → change_at n (started first) xs ≡ xs
other_kind first n [] e = refl
other_kind first zero (x ∷ xs) e = ap (λ b. (if b then record x { value = first.value; checked = first.checked } else x) ∷ xs) e
other_kind first (suc n) (x ∷ xs) e = ap (λ cs. x ∷ cs) (other_kind first n xs e)

abbrev pub with_contents : DocumentState → List Content → DocumentState
with_contents s contents = let r : Rows = record s.rows { contents = contents } in record s { rows = r }

pub started_element : (s : DocumentState) (n : ℕ) (first : First) → is_element s.rows n ≡ true → written s n (λ c. record c { value = first.value; checked = first.checked }) ≡ written s n (started first)
started_element s n first e = ap (with_contents s) (sym (started_kind first n s.rows.contents e))

pub started_other : (s : DocumentState) (n : ℕ) (first : First) → is_element s.rows n ≡ false → s ≡ written s n (started first)
started_other s n first e = ap (with_contents s) (sym (other_kind first n s.rows.contents e))

-- ---- all nodes, one after another
-- the nodes before this one have their first values
abbrev pub partly : DocumentState → ℕ → DocumentState
partly s k = with_contents s (for_each (started_at s.rows) k ++ drop k s.rows.contents)

change_here : (f : Content → Content) (n : ℕ) (xs : List Content) (c : Content) (rest : List Content) → n ≡ length xs → change_at n f (xs ++ c ∷ rest) ≡ xs ++ f c ∷ rest
change_here f zero [] c rest at = refl
change_here f (suc n) [] c rest at = absurd (omega arith)
change_here f zero (x ∷ xs) c rest at = absurd (omega arith)
change_here f (suc n) (x ∷ xs) c rest at = ap (λ cs. x ∷ cs) (change_here f n xs c rest (omega arith))

drop_here : (xs : List Content) (k : ℕ) → k < length xs → drop k xs ≡ or_shadow_root (slice_get xs k) ∷ drop (k + 1) xs
drop_here [] k within = absurd (omega arith)
drop_here (x ∷ xs) zero within = refl
drop_here (x ∷ xs) (suc k) within = let e : suc k + 1 ≡ suc (k + 1) = omega arith in rw e (drop_here xs k (omega arith))

pub partly_more : (s t : DocumentState) (k : ℕ) (first : First) → k < length s.rows.contents → first ≡ first_at s.rows k → t ≡ written (partly s k) k (started first) → t ≡ partly s (k + 1)
partly_more s t k first within is step =
    let f : ℕ → Content = started_at s.rows in
    step ∙ ap (λ (v : First). written (partly s k) k (started v)) is
    ∙ ap (with_contents s) (ap (λ cs. change_at k (started (first_at s.rows k)) (for_each f k ++ cs)) (drop_here s.rows.contents k within)
    ∙ change_here (started (first_at s.rows k)) k (for_each f k) (content_at s.rows k) (drop (k + 1) s.rows.contents) (sym (length-for_each f k))
    ∙ sym (append_assoc (for_each f k) (f k ∷ []) (drop (k + 1) s.rows.contents))
    ∙ ap (λ cs. cs ++ drop (k + 1) s.rows.contents) (sym (for_each-more f k)))

pub partly_all : (s t : DocumentState) (k : ℕ) → k ≡ length s.rows.contents → t ≡ partly s k → t ≡ record s { rows = with_firsts s.rows }
partly_all s t k all is =
    is ∙ ap (λ j. partly s j) all
    ∙ ap (with_contents s) (ap (λ cs. for_each (started_at s.rows) (length s.rows.contents) ++ cs) (drop_all (length s.rows.contents) s.rows.contents (omega arith))
    ∙ append-nil (for_each (started_at s.rows) (length s.rows.contents)))
