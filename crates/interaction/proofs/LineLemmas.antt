-- What is written one mark after another is the lines that the marks make.
use Rattle.std.proofs.Common.{◌≡◌, ℕ, Bool, true, false, List, [], ◌∷◌, ◌++◌, Some, None, cond, drop, refl, sym, ap, ◌∙◌, append_assoc, append-nil}
use Rattle.std.specs.Prelude.{is_none, map, filter}
use Rattle.std.specs.List.{flat_map, fold}
use Rattle.page_tree.specs.Places.{only}
use Rattle.interaction.specs.Parts.{up_to, after_each, parts, has_some, led}
use Rattle.interaction.specs.RenderedText.{Mark, is_blank, squeezed, lines, in_lines}
use Rattle.interaction.specs.Writing.{broken, spaced, lead, with_mark, written}
use Rattle.interaction.specs.declared.lines.Lines.{Lines}
use Rattle.interaction.specs.declared.lines.Gap.{Gap}
use Rattle.interaction.specs.declared.lines.Gap.TheVariants.{Start, Tight, Space, Break}

-- what the marks add after that gap; the white space of a character is looked at first
abbrev after : Gap → List Mark → List ℕ
after gap [] = []
after gap (None ∷ marks) = after (broken gap) marks
after gap (Some c ∷ marks) = cond (is_blank c) (after (spaced gap) marks) (lead gap ++ c ∷ after Tight marks)

one_more : (text front : List ℕ) (c : ℕ) (rest : List ℕ) → (text ++ (front ++ c ∷ [])) ++ rest ≡ text ++ (front ++ c ∷ rest)
one_more text front c rest = append_assoc text (front ++ c ∷ []) rest ∙ ap (λ (xs : List ℕ). text ++ xs) (append_assoc front (c ∷ []) rest)

adds : (now : Lines) (marks : List Mark) → (fold with_mark now marks).text ≡ now.text ++ after now.gap marks
adds now [] = sym (append-nil now.text)
adds now (None ∷ marks) = adds (record now { gap = broken now.gap }) marks
adds now (Some c ∷ marks) = by (is_blank c) (adds (record now { gap = spaced now.gap }) marks) (adds (record { text = now.text ++ (lead now.gap ++ c ∷ []); gap = Tight }) marks)
  where
    by : (b : Bool)
        → (fold with_mark (record now { gap = spaced now.gap }) marks).text ≡ now.text ++ after (spaced now.gap) marks
        → (fold with_mark (record { text = now.text ++ (lead now.gap ++ c ∷ []); gap = Tight }) marks).text ≡ (now.text ++ (lead now.gap ++ c ∷ [])) ++ after Tight marks
        → (fold with_mark (cond b (record now { gap = spaced now.gap }) (record { text = now.text ++ (lead now.gap ++ c ∷ []); gap = Tight })) marks).text
        ≡ now.text ++ cond b (after (spaced now.gap) marks) (lead now.gap ++ c ∷ after Tight marks)
    by true blank other = blank
    by false blank other = other ∙ one_more now.text (lead now.gap) c (after Tight marks)

-- ---- the characters of the first line, and the other lines

abbrev first_line : List Mark → List ℕ
first_line marks = flat_map only (up_to is_none marks)

abbrev later_lines : List Mark → List ℕ
later_lines marks = led 10 (filter has_some (map squeezed (map (flat_map only) (after_each is_none marks))))

abbrev rest_of_line : List ℕ → List ℕ
rest_of_line line = up_to is_blank line ++ led 32 (filter has_some (after_each is_blank line))

abbrev words_of_line : List ℕ → List ℕ
words_of_line line = led 32 (filter has_some (parts is_blank line))

abbrev all_lines : List Mark → List ℕ
all_lines marks = led 10 (filter has_some (map squeezed (lines marks)))

-- ---- one character more at the front of a line

rest_blank : (c : ℕ) (line : List ℕ) → is_blank c ≡ true → rest_of_line (c ∷ line) ≡ words_of_line line
rest_blank c line is = by (is_blank c) is
  where
    by : (b : Bool) → b ≡ true → cond b [] (c ∷ up_to is_blank line) ++ led 32 (filter has_some (cond b (parts is_blank line) (after_each is_blank line))) ≡ words_of_line line
    by true h = refl
    by false h = absurd (let e : false ≡ true = h in cc)

rest_shown : (c : ℕ) (line : List ℕ) → is_blank c ≡ false → rest_of_line (c ∷ line) ≡ c ∷ rest_of_line line
rest_shown c line is = by (is_blank c) is
  where
    by : (b : Bool) → b ≡ false → cond b [] (c ∷ up_to is_blank line) ++ led 32 (filter has_some (cond b (parts is_blank line) (after_each is_blank line))) ≡ c ∷ rest_of_line line
    by false h = refl
    by true h = absurd (let e : true ≡ false = h in cc)

words_blank : (c : ℕ) (line : List ℕ) → is_blank c ≡ true → words_of_line (c ∷ line) ≡ words_of_line line
words_blank c line is = by (is_blank c) is
  where
    by : (b : Bool) → b ≡ true → led 32 (filter has_some (cond b [] (c ∷ up_to is_blank line) ∷ cond b (parts is_blank line) (after_each is_blank line))) ≡ words_of_line line
    by true h = refl
    by false h = absurd (let e : false ≡ true = h in cc)

words_shown : (c : ℕ) (line : List ℕ) → is_blank c ≡ false → words_of_line (c ∷ line) ≡ 32 ∷ c ∷ rest_of_line line
words_shown c line is = by (is_blank c) is
  where
    by : (b : Bool) → b ≡ false → led 32 (filter has_some (cond b [] (c ∷ up_to is_blank line) ∷ cond b (parts is_blank line) (after_each is_blank line))) ≡ 32 ∷ c ∷ rest_of_line line
    by false h = refl
    by true h = absurd (let e : true ≡ false = h in cc)

-- a line in front of others
abbrev fronted : List ℕ → List Mark → List ℕ
fronted line marks = led 10 (filter has_some (line ∷ map squeezed (map (flat_map only) (after_each is_none marks))))

-- ---- the three gaps

record Matches (marks : List Mark) : Type 0 where
  pub tight : after Tight marks ≡ rest_of_line (first_line marks) ++ later_lines marks
  pub space : after Space marks ≡ words_of_line (first_line marks) ++ later_lines marks
  pub break : after Break marks ≡ all_lines marks

choose : {X : Type 0} (b d : Bool) (x y : X) → b ≡ d → cond b x y ≡ cond d x y
choose {X} b d x y e = ap (λ (z : Bool). cond z x y) e

module _ (c : ℕ) (marks : List Mark) (m : Matches marks) where
  blank_first : is_blank c ≡ true → Matches (Some c ∷ marks)
  blank_first is = record {
    tight = choose (is_blank c) true (after Space marks) (c ∷ after Tight marks) is ∙ m.space ∙ ap (λ (xs : List ℕ). xs ++ later_lines marks) (sym (rest_blank c (first_line marks) is));
    space = choose (is_blank c) true (after Space marks) (32 ∷ c ∷ after Tight marks) is ∙ m.space ∙ ap (λ (xs : List ℕ). xs ++ later_lines marks) (sym (words_blank c (first_line marks) is));
    break = choose (is_blank c) true (after Break marks) (10 ∷ c ∷ after Tight marks) is ∙ m.break ∙ ap (λ (xs : List ℕ). fronted (drop 1 xs) marks) (sym (words_blank c (first_line marks) is));
  }

  shown_first : is_blank c ≡ false → Matches (Some c ∷ marks)
  shown_first is = record {
    tight = choose (is_blank c) false (after Space marks) (c ∷ after Tight marks) is ∙ ap (λ (xs : List ℕ). c ∷ xs) m.tight ∙ ap (λ (xs : List ℕ). xs ++ later_lines marks) (sym (rest_shown c (first_line marks) is));
    space = choose (is_blank c) false (after Space marks) (32 ∷ c ∷ after Tight marks) is ∙ ap (λ (xs : List ℕ). 32 ∷ c ∷ xs) m.tight ∙ ap (λ (xs : List ℕ). xs ++ later_lines marks) (sym (words_shown c (first_line marks) is));
    break = choose (is_blank c) false (after Break marks) (10 ∷ c ∷ after Tight marks) is ∙ ap (λ (xs : List ℕ). 10 ∷ c ∷ xs) m.tight ∙ ap (λ (xs : List ℕ). fronted (drop 1 xs) marks) (sym (words_shown c (first_line marks) is));
  }

matches : (marks : List Mark) → Matches marks
matches [] = record { tight = refl; space = refl; break = refl }
matches (None ∷ marks) = let m = matches marks in record { tight = m.break; space = m.break; break = m.break }
matches (Some c ∷ marks) = by (is_blank c) refl (matches marks)
  where
    by : (b : Bool) → is_blank c ≡ b → Matches marks → Matches (Some c ∷ marks)
    by true is m = blank_first c marks m is
    by false is m = shown_first c marks m is

-- at the start nothing parts the first character
at_start : (marks : List Mark) → after Start marks ≡ drop 1 (after Break marks)
at_start [] = refl
at_start (None ∷ marks) = at_start marks
at_start (Some c ∷ marks) = by (is_blank c) (at_start marks)
  where
    by : (b : Bool) → after Start marks ≡ drop 1 (after Break marks) → cond b (after Start marks) (c ∷ after Tight marks) ≡ drop 1 (cond b (after Break marks) (10 ∷ c ∷ after Tight marks))
    by true h = h
    by false h = refl

pub written_text : (now : Lines) (marks : List Mark) → now ≡ written (record { text = []; gap = Start }) marks → now.text ≡ in_lines marks
unfolding written
written_text now marks is =
    ap (λ (l : Lines). l.text) is ∙ adds (record { text = []; gap = Start }) marks ∙ at_start marks ∙ ap (λ (xs : List ℕ). drop 1 xs) ((matches marks).break)
