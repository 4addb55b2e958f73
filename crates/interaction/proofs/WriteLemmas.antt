-- Marks written one list after another.
use Rattle.std.proofs.Common.{◌≡◌, ℕ, zero, suc, ◌+◌, ◌-◌, ◌<◌, Bool, true, false, cond, List, [], ◌∷◌, ◌++◌, length, take, get_or, refl, sym, ap, ◌∙◌, arith, append_assoc, append-nil}
use Rattle.std.specs.Prelude.{not, filter}
use Rattle.std.specs.List.{flat_map}
use Rattle.std.proofs.lemmas.List.{take_more}
use Rattle.std.proofs.lemmas.List.Elements.{filter-append}
use Rattle.std.proofs.lemmas.List.Sums.{fold-append}
use Rattle.std.proofs.lemmas.Grind.{flat_map-append}
use Rattle.page_tree.specs.Places.{kids_of}
use Rattle.page_tree.specs.Rows.{Rows, IsTree, tag_of, text_of}
use Rattle.page_tree.specs.Display.{hides, is_shown}
use Rattle.page_tree.proofs.Displays.{item_in, kid_shown}
use Rattle.interaction.specs.RenderedText.{Mark, breaks_before, breaks_after, break_if, characters, shown_kids, marks, in_lines, rendered_text}
use Rattle.interaction.specs.Writing.{with_mark, written}
use Rattle.interaction.specs.declared.lines.Lines.{Lines}

pub written-append : (lines : Lines) (one two : List Mark) → written lines (one ++ two) ≡ written (written lines one) two
unfolding written
written-append lines one two = fold-append with_mark lines one two

pub written-none : (lines : Lines) → written lines [] ≡ lines
unfolding written
written-none lines = refl

pub written-more : (lines : Lines) (mark : Mark) (later : List Mark) → written lines (mark ∷ later) ≡ written (with_mark lines mark) later
unfolding written
written-more lines mark later = refl

-- ---- levels, one at a time

marks_zero : (rows : Rows) (n : ℕ) → marks zero rows n ≡ []
unfolding marks
marks_zero rows n = refl

marks_suc : (levels : ℕ) (rows : Rows) (n : ℕ) → marks (suc levels) rows n ≡ ((break_if (breaks_before (tag_of rows n)) ++ characters (text_of rows n)) ++ flat_map (marks levels rows) (shown_kids rows n)) ++ break_if (breaks_after (tag_of rows n))
unfolding marks
marks_suc levels rows n = refl

pub marks_none : (lines : Lines) (levels : ℕ) (rows : Rows) (n : ℕ) → levels ≡ 0 → lines ≡ written lines (marks levels rows n)
marks_none lines zero rows n h = sym (ap (written lines) (marks_zero rows n) ∙ written-none lines)
marks_none lines (suc levels) rows n h = absurd (omega arith)

pub marks_some : (levels : ℕ) (rows : Rows) (n : ℕ) → 0 < levels → marks levels rows n ≡ ((break_if (breaks_before (tag_of rows n)) ++ characters (text_of rows n)) ++ flat_map (marks (levels - 1) rows) (shown_kids rows n)) ++ break_if (breaks_after (tag_of rows n))
marks_some zero rows n h = absurd (omega arith)
marks_some (suc levels) rows n h = let e : suc levels - 1 ≡ levels = omega arith in rw e (marks_suc levels rows n)

-- ---- the children that are shown, one at a time

abbrev picked : Bool → ℕ → List ℕ
picked b k = cond b (k ∷ []) []

module _ (rows : Rows) (tree : IsTree rows) (levels n : ℕ) (shown : is_shown rows n ≡ true) (before : Lines) (own : List Mark) (i k : ℕ)
    (within : i < length (kids_of rows.kids n)) (is : k ≡ get_or (kids_of rows.kids n) i k) where
  abbrev so_far : ℕ → Lines
  so_far j = written before (own ++ flat_map (marks levels rows) (filter (is_shown rows) (take j (kids_of rows.kids n))))

  kid_is : is_shown rows k ≡ not (hides rows k)
  kid_is = kid_shown rows tree n k (item_in (kids_of rows.kids n) i k within is) shown

  pub kid_seen : hides rows k ≡ false → is_shown rows k ≡ true
  kid_seen clear = kid_is ∙ ap not clear

  more : (b : Bool) → is_shown rows k ≡ b → filter (is_shown rows) (take (i + 1) (kids_of rows.kids n)) ≡ filter (is_shown rows) (take i (kids_of rows.kids n)) ++ picked b k
  more b test =
      ap (filter (is_shown rows)) (take_more (kids_of rows.kids n) i k within)
      ∙ filter-append (is_shown rows) (take i (kids_of rows.kids n)) (get_or (kids_of rows.kids n) i k ∷ [])
      ∙ ap (λ (m : ℕ). filter (is_shown rows) (take i (kids_of rows.kids n)) ++ picked (is_shown rows m) m) (sym is)
      ∙ ap (λ (c : Bool). filter (is_shown rows) (take i (kids_of rows.kids n)) ++ picked c k) test

  pub kid_written : (now new : Lines) → now ≡ so_far i → hides rows k ≡ false → new ≡ written now (marks levels rows k) → new ≡ so_far (i + 1)
  kid_written now new held clear is_new =
      is_new ∙ ap (λ (l : Lines). written l (marks levels rows k)) held
      ∙ sym (written-append before (own ++ flat_map (marks levels rows) (filter (is_shown rows) (take i (kids_of rows.kids n)))) (marks levels rows k))
      ∙ ap (written before)
      (append_assoc own (flat_map (marks levels rows) (filter (is_shown rows) (take i (kids_of rows.kids n)))) (marks levels rows k)
      ∙ ap (λ (ms : List Mark). own ++ ms)
      (ap (λ (ms : List Mark). flat_map (marks levels rows) (filter (is_shown rows) (take i (kids_of rows.kids n))) ++ ms) (sym (append-nil (marks levels rows k)))
      ∙ sym (flat_map-append (marks levels rows) (filter (is_shown rows) (take i (kids_of rows.kids n))) (k ∷ []))
      ∙ ap (flat_map (marks levels rows)) (sym (more true (kid_seen clear)))))

  pub kid_left_out : (now : Lines) → now ≡ so_far i → hides rows k ≡ true → now ≡ so_far (i + 1)
  kid_left_out now held hidden =
      held ∙ ap (λ (ks : List ℕ). written before (own ++ flat_map (marks levels rows) ks))
      (sym (more false (kid_is ∙ ap not hidden) ∙ append-nil (filter (is_shown rows) (take i (kids_of rows.kids n)))))

pub begun : (old one two : Lines) (front text : List Mark) → one ≡ written old front → two ≡ written one text → two ≡ written old ((front ++ text) ++ [])
begun old one two front text first second =
    second ∙ ap (λ (l : Lines). written l text) first ∙ sym (written-append old front text) ∙ ap (written old) (sym (append-nil (front ++ text)))

pub finished : (levels : ℕ) (rows : Rows) (n : ℕ) (old now new : Lines) (kids : List ℕ) → 0 < levels → kids ≡ kids_of rows.kids n
    → now ≡ written old ((break_if (breaks_before (tag_of rows n)) ++ characters (text_of rows n)) ++ flat_map (marks (levels - 1) rows) (filter (is_shown rows) kids))
    → new ≡ written now (break_if (breaks_after (tag_of rows n))) → new ≡ written old (marks levels rows n)
finished levels rows n old now new kids some all held last =
    let own = break_if (breaks_before (tag_of rows n)) ++ characters (text_of rows n) in
    let end = break_if (breaks_after (tag_of rows n)) in
    last ∙ ap (λ (l : Lines). written l end) held
    ∙ sym (written-append old (own ++ flat_map (marks (levels - 1) rows) (filter (is_shown rows) kids)) end)
    ∙ ap (λ (ks : List ℕ). written old ((own ++ flat_map (marks (levels - 1) rows) (filter (is_shown rows) ks)) ++ end)) all
    ∙ ap (written old) (sym (marks_some levels rows n some))

-- ---- the whole text

chosen : (b d : Bool) (one two : List ℕ) → b ≡ d → cond b one two ≡ cond d one two
chosen b d one two e = ap (λ (c : Bool). cond c one two) e

pub text_shown : (rows : Rows) (n : ℕ) → is_shown rows n ≡ true → rendered_text rows n ≡ in_lines (marks 200 rows n)
unfolding rendered_text
text_shown rows n h = chosen (is_shown rows n) true (in_lines (marks 200 rows n)) [] h

pub text_hidden : (rows : Rows) (n : ℕ) → is_shown rows n ≡ false → rendered_text rows n ≡ []
unfolding rendered_text
text_hidden rows n h = chosen (is_shown rows n) false (in_lines (marks 200 rows n)) [] h
