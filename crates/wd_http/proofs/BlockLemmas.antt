-- The end of a block, found byte by byte, is that of the block by its lines.
use Rattle.std.proofs.Common.{◌≡◌, ◌≢◌, ◌==◌, ◌+◌, ◌≤◌, ◌++◌, ◌∷◌, ℕ, List, [], false, Option, Some, None, take, length, refl, sym, subst, ap, ◌∙◌, inl, inr, append_assoc, length-append, get_or, add-one, arith}
use Rattle.std.proofs.lemmas.Bool.Decides.{eqb_tells}
use Rattle.wd_http.specs.declared.mark.Mark.{Mark}
use Rattle.wd_http.specs.declared.mark.Mark.TheVariants.{Blank, BlankReturn, Text, Start, StartReturn}
use Rattle.wd_http.specs.Marks.{step, one_more, at_mark, block_end, mark_after}
use Rattle.wd_http.specs.Blocks.{IsLineText, IsEmptyLine, IsFullLine, lines_text, EndsBlock, AreBlockLines, IsBlock}

-- a number that stands behind n others
abbrev pub add_to : ℕ → Option ℕ → Option ℕ
add_to n None = None
add_to n (Some k) = Some (n + k)

one_more_adds : (o : Option ℕ) → one_more o ≡ add_to 1 o
one_more_adds None = refl
one_more_adds (Some n) = ap Some (omega arith)

add_twice : (a b c : ℕ) (o : Option ℕ) → a + b ≡ c → add_to a (add_to b o) ≡ add_to c o
add_twice a b c None e = refl
add_twice a b c (Some n) e = ap Some (omega arith)

add_none : (o : Option ℕ) → add_to 0 o ≡ o
add_none None = refl
add_none (Some n) = ap Some (omega arith)

-- the step over a byte that doesn't end the block
pub end_step : (b : ℕ) (bs : List ℕ) (m n : Mark) → step m b ≡ Some n → block_end (b ∷ bs) m ≡ add_to 1 (block_end bs n)
end_step b bs m n e = ap (λ o. one_more (at_mark o (Some 0) (block_end bs))) e ∙ one_more_adds (block_end bs n)

pub end_here : (b : ℕ) (bs : List ℕ) (m : Mark) → step m b ≡ None → block_end (b ∷ bs) m ≡ Some 1
end_here b bs m e = ap (λ o. one_more (at_mark o (Some 0) (block_end bs))) e

pub mark_step : (b : ℕ) (bs : List ℕ) (m n : Mark) → step m b ≡ Some n → mark_after (b ∷ bs) m ≡ mark_after bs n
mark_step b bs m n e = ap (λ o. at_mark o m (mark_after bs)) e

-- the marks behind a line feed, a carriage return, and another byte
not_feed : (b : ℕ) → b ≢ 10 → (b == 10) ≡ false
not_feed b ne = elim (eqb_tells b 10) [ inl p ↦ absurd (ne p.1) | inr p ↦ p.0 ]

not_return : (b : ℕ) → b ≢ 13 → (b == 13) ≡ false
not_return b ne = elim (eqb_tells b 13) [ inl p ↦ absurd (ne p.1) | inr p ↦ p.0 ]

text_step : (b : ℕ) → b ≢ 10 → step Text b ≡ Some Text
text_step b ne = rw (not_feed b ne) refl

-- over the text of a line
over_text : (t rest : List ℕ) → IsLineText t → block_end (t ++ (10 ∷ rest)) Text ≡ add_to (length t + 1) (block_end rest Start)
over_text [] rest h = end_step 10 rest Text Start refl
over_text (b ∷ t) rest h =
    end_step b (t ++ (10 ∷ rest)) Text Text (text_step b h.0)
    ∙ (ap (add_to 1) (over_text t rest h.1) ∙ add_twice 1 (length t + 1) (length (b ∷ t) + 1) (block_end rest Start) (omega arith))

-- over a line that isn't empty, from the start of a line
module _ (m r : Mark) (ret : step m 13 ≡ Some r) (other : (b : ℕ) → b ≢ 10 → b ≢ 13 → step m b ≡ Some Text) (back : (b : ℕ) → b ≢ 10 → step r b ≡ Some Text) where
  over_rest : (b : ℕ) (t rest : List ℕ) (n : Mark) → step n b ≡ Some Text → IsLineText t → block_end ((b ∷ t) ++ (10 ∷ rest)) n ≡ add_to (length (b ∷ t) + 1) (block_end rest Start)
  over_rest b t rest n e h =
      end_step b (t ++ (10 ∷ rest)) n Text e
      ∙ (ap (add_to 1) (over_text t rest h) ∙ add_twice 1 (length t + 1) (length (b ∷ t) + 1) (block_end rest Start) (omega arith))

  over_full : (t rest : List ℕ) → IsFullLine t → block_end (t ++ (10 ∷ rest)) m ≡ add_to (length t + 1) (block_end rest Start)
  over_full [] rest h = absurd (h.1 (inl refl))
  over_full (b ∷ []) rest h = elim (eqb_tells b 13) [
    | inl p ↦ absurd (h.1 (inr (ap (λ x. x ∷ []) p.1)))
    | inr p ↦ over_rest b [] rest m (other b h.0.0 p.1) tt
  ]
  over_full (b ∷ c ∷ t) rest h = elim (eqb_tells b 13) [
    | inl p ↦ end_step b ((c ∷ t) ++ (10 ∷ rest)) m r (ap (step m) p.1 ∙ ret)
        ∙ (ap (add_to 1) (over_rest c t rest r (back c h.0.1.0) h.0.1.1) ∙ add_twice 1 (length (c ∷ t) + 1) (length (b ∷ c ∷ t) + 1) (block_end rest Start) (omega arith))
    | inr p ↦ over_rest b (c ∷ t) rest m (other b h.0.0 p.1) h.0.1
  ]

from_blank : (b : ℕ) → b ≢ 10 → b ≢ 13 → step Blank b ≡ Some Text
from_blank b x y = rw (not_feed b x, not_return b y) refl

from_start : (b : ℕ) → b ≢ 10 → b ≢ 13 → step Start b ≡ Some Text
from_start b x y = rw (not_feed b x, not_return b y) refl

from_blank_return : (b : ℕ) → b ≢ 10 → step BlankReturn b ≡ Some Text
from_blank_return b x = rw (not_feed b x) refl

from_start_return : (b : ℕ) → b ≢ 10 → step StartReturn b ≡ Some Text
from_start_return b x = rw (not_feed b x) refl

-- over an empty line before the others
over_blank : (t rest : List ℕ) → IsEmptyLine t → block_end (t ++ (10 ∷ rest)) Blank ≡ add_to (length t + 1) (block_end rest Blank)
over_blank t rest (inl e) =
    let P : List ℕ → Type 0 = λ u. block_end (u ++ (10 ∷ rest)) Blank ≡ add_to (length u + 1) (block_end rest Blank) in
    subst P (sym e) (end_step 10 rest Blank Blank refl)
over_blank t rest (inr e) =
    let P : List ℕ → Type 0 = λ u. block_end (u ++ (10 ∷ rest)) Blank ≡ add_to (length u + 1) (block_end rest Blank) in
    subst P (sym e) (end_step 13 (10 ∷ rest) Blank BlankReturn refl ∙ (ap (add_to 1) (end_step 10 rest BlankReturn Blank refl) ∙ add_twice 1 1 2 (block_end rest Blank) refl))

-- over the empty line that ends the block
over_last : (t rest : List ℕ) → IsEmptyLine t → block_end (t ++ (10 ∷ rest)) Start ≡ Some (length t + 1)
over_last t rest (inl e) =
    let P : List ℕ → Type 0 = λ u. block_end (u ++ (10 ∷ rest)) Start ≡ Some (length u + 1) in
    subst P (sym e) (end_here 10 rest Start refl)
over_last t rest (inr e) =
    let P : List ℕ → Type 0 = λ u. block_end (u ++ (10 ∷ rest)) Start ≡ Some (length u + 1) in
    subst P (sym e) (end_step 13 (10 ∷ rest) Start StartReturn refl ∙ ap (add_to 1) (end_here 10 rest StartReturn refl))

-- a line, and what follows it
line_then : (t more rest : List ℕ) → (t ++ (10 ∷ more)) ++ rest ≡ t ++ (10 ∷ (more ++ rest))
line_then t more rest = append_assoc t (10 ∷ more) rest

line_length : (t more : List ℕ) → length t + 1 + length more ≡ length (t ++ (10 ∷ more))
line_length t more = omega (arith, length-append t (10 ∷ more))

over_head : (ts : List (List ℕ)) (rest : List ℕ) → EndsBlock ts → block_end (lines_text ts ++ rest) Start ≡ Some (length (lines_text ts))
over_head [] rest h = absurd h
over_head (t ∷ ts) rest (inl (e, none)) =
    let P : List (List ℕ) → Type 0 = λ us. block_end (lines_text (t ∷ us) ++ rest) Start ≡ Some (length (lines_text (t ∷ us))) in
    let k : length t + 1 ≡ length (t ++ (10 ∷ [])) = omega (arith, length-append t (10 ∷ [])) in
    subst P (sym none) (ap (λ u. block_end u Start) (line_then t [] rest) ∙ (over_last t rest e ∙ ap Some k))
over_head (t ∷ ts) rest (inr (full, more)) =
    ap (λ u. block_end u Start) (line_then t (lines_text ts) rest)
    ∙ (over_full Start StartReturn refl from_start from_start_return t (lines_text ts ++ rest) full
    ∙ (ap (add_to (length t + 1)) (over_head ts rest more) ∙ ap Some (line_length t (lines_text ts))))

over_block : (ts : List (List ℕ)) (rest : List ℕ) → AreBlockLines ts → block_end (lines_text ts ++ rest) Blank ≡ Some (length (lines_text ts))
over_block [] rest h = absurd h
over_block (t ∷ ts) rest (inl (e, more)) =
    ap (λ u. block_end u Blank) (line_then t (lines_text ts) rest)
    ∙ (over_blank t (lines_text ts ++ rest) e
    ∙ (ap (add_to (length t + 1)) (over_block ts rest more) ∙ ap Some (line_length t (lines_text ts))))
over_block (t ∷ ts) rest (inr (full, more)) =
    ap (λ u. block_end u Blank) (line_then t (lines_text ts) rest)
    ∙ (over_full Blank BlankReturn refl from_blank from_blank_return t (lines_text ts ++ rest) full
    ∙ (ap (add_to (length t + 1)) (over_head ts rest more) ∙ ap Some (line_length t (lines_text ts))))

-- A block ends where its last line ends, whatever follows.
pub block_ends : (s rest : List ℕ) → IsBlock s → block_end (s ++ rest) Blank ≡ Some (length s)
block_ends s rest (ts, e, lines) =
    let P : List ℕ → Type 0 = λ u. block_end (u ++ rest) Blank ≡ Some (length u) in
    subst P (sym e) (over_block ts rest lines)

-- what takes a mark to the end of a block
Goes : Mark → List ℕ → Type 0
Goes Blank s = IsBlock s
Goes BlankReturn s = IsBlock (13 ∷ s)
Goes Text s = (t : List ℕ) × (ts : List (List ℕ)) × (s ≡ t ++ (10 ∷ lines_text ts)) × IsLineText t × EndsBlock ts
Goes Start s = (ts : List (List ℕ)) × (s ≡ lines_text ts) × EndsBlock ts
Goes StartReturn s = (ts : List (List ℕ)) × (13 ∷ s ≡ lines_text ts) × EndsBlock ts

GoesFrom : Option Mark → List ℕ → Type 0
GoesFrom None s = s ≡ []
GoesFrom (Some m) s = Goes m s

full_one : (b : ℕ) (t : List ℕ) → b ≢ 10 → b ≢ 13 → IsLineText t → IsFullLine (b ∷ t)
full_one b t x y h = ((x, h), λ e. elim e [ inl f ↦ absurd (cc (f)) | inr f ↦ y (ap (λ u. get_or u 0 0) f) ])

full_two : (b : ℕ) (t : List ℕ) → b ≢ 10 → IsLineText t → IsFullLine (13 ∷ b ∷ t)
full_two b t x h = (((λ e. absurd (omega arith)), (x, h)), λ e. elim e [ inl f ↦ absurd (cc (f)) | inr f ↦ absurd (cc (f)) ])

goes_at : (s : List ℕ) (o n : Option Mark) → o ≡ n → GoesFrom o s → GoesFrom n s
goes_at s o n e h = let P : Option Mark → Type 0 = λ x. GoesFrom x s in subst P e h

goes_back : (m : Mark) (b : ℕ) (s : List ℕ) → GoesFrom (step m b) s → Goes m (b ∷ s)
unfolding Goes GoesFrom
goes_back Blank b s h = elim (eqb_tells b 10) [
  | inl p ↦
      let g = goes_at s _ (Some Blank) (ap (step Blank) p.1) h in
      ([] ∷ g.0, ap (λ x. x ∷ s) p.1 ∙ ap (λ u. 10 ∷ u) g.1, inl (inl refl, g.2))
  | inr p ↦ elim (eqb_tells b 13) [
    | inl q ↦
        let g = goes_at s _ (Some BlankReturn) (ap (step Blank) q.1) h in
        (g.0, ap (λ x. x ∷ s) q.1 ∙ g.1, g.2)
    | inr q ↦
        let g = goes_at s _ (Some Text) (from_blank b p.1 q.1) h in
        ((b ∷ g.0) ∷ g.1, ap (λ u. b ∷ u) g.2, inr (full_one b g.0 p.1 q.1 g.3, g.4))
  ]
]
goes_back BlankReturn b s h = elim (eqb_tells b 10) [
  | inl p ↦
      let g = goes_at s _ (Some Blank) (ap (step BlankReturn) p.1) h in
      ((13 ∷ []) ∷ g.0, ap (λ x. 13 ∷ x ∷ s) p.1 ∙ ap (λ u. 13 ∷ 10 ∷ u) g.1, inl (inr refl, g.2))
  | inr p ↦
      let g = goes_at s _ (Some Text) (from_blank_return b p.1) h in
      ((13 ∷ b ∷ g.0) ∷ g.1, ap (λ u. 13 ∷ b ∷ u) g.2, inr (full_two b g.0 p.1 g.3, g.4))
]
goes_back Text b s h = elim (eqb_tells b 10) [
  | inl p ↦
      let g = goes_at s _ (Some Start) (ap (step Text) p.1) h in
      ([], g.0, ap (λ x. x ∷ s) p.1 ∙ ap (λ u. 10 ∷ u) g.1, tt, g.2)
  | inr p ↦
      let g = goes_at s _ (Some Text) (text_step b p.1) h in
      (b ∷ g.0, g.1, ap (λ u. b ∷ u) g.2, (p.1, g.3), g.4)
]
goes_back Start b s h = elim (eqb_tells b 10) [
  | inl p ↦
      let g = goes_at s _ None (ap (step Start) p.1) h in
      ([] ∷ [], ap (λ x. x ∷ s) p.1 ∙ ap (λ u. 10 ∷ u) g, inl (inl refl, refl))
  | inr p ↦ elim (eqb_tells b 13) [
    | inl q ↦
        let g = goes_at s _ (Some StartReturn) (ap (step Start) q.1) h in
        (g.0, ap (λ x. x ∷ s) q.1 ∙ g.1, g.2)
    | inr q ↦
        let g = goes_at s _ (Some Text) (from_start b p.1 q.1) h in
        ((b ∷ g.0) ∷ g.1, ap (λ u. b ∷ u) g.2, inr (full_one b g.0 p.1 q.1 g.3, g.4))
  ]
]
goes_back StartReturn b s h = elim (eqb_tells b 10) [
  | inl p ↦
      let g = goes_at s _ None (ap (step StartReturn) p.1) h in
      ((13 ∷ []) ∷ [], ap (λ x. 13 ∷ x ∷ s) p.1 ∙ ap (λ u. 13 ∷ 10 ∷ u) g, inl (inr refl, refl))
  | inr p ↦
      let g = goes_at s _ (Some Text) (from_start_return b p.1) h in
      ((13 ∷ b ∷ g.0) ∷ g.1, ap (λ u. 13 ∷ b ∷ u) g.2, inr (full_two b g.0 p.1 g.3, g.4))
]

-- what stands up to the end that was found
Found : Mark → List ℕ → ℕ → Type 0
Found m bs n = (n ≤ length bs) × Goes m (take n bs)

one_is : (n k : ℕ) → Some k ≡ Some n → k ≡ n
one_is n k e = cc

module _ (b : ℕ) (bs : List ℕ) (m : Mark) (later : (k : Mark) (j : ℕ) → block_end bs k ≡ Some j → Found k bs j) where
  found_more : (k : Mark) (r : Option ℕ) (n : ℕ) → step m b ≡ Some k → block_end bs k ≡ r → one_more r ≡ Some n → Found m (b ∷ bs) n
  unfolding Found GoesFrom
  found_more k None n s r e = absurd (cc (e))
  found_more k (Some j) n s r e =
      let g = later k j r in
      let P : ℕ → Type 0 = λ i. Found m (b ∷ bs) i in
      subst P (one_is n (j + 1) e) (omega arith, rw add-one (goes_back m b (take j bs) (goes_at (take j bs) (Some k) (step m b) (sym s) g.1)))

  found_step : (o : Option Mark) (n : ℕ) → step m b ≡ o → one_more (at_mark o (Some 0) (block_end bs)) ≡ Some n → Found m (b ∷ bs) n
  unfolding Found GoesFrom
  found_step None n s e =
      let P : ℕ → Type 0 = λ i. Found m (b ∷ bs) i in
      subst P (one_is n 1 e) (omega arith, goes_back m b [] (goes_at [] None (step m b) (sym s) refl))
  found_step (Some k) n s e = found_more k (block_end bs k) n s refl e

found_in : (bs : List ℕ) (m : Mark) (n : ℕ) → block_end bs m ≡ Some n → Found m bs n
found_in [] m n e = absurd (cc (e))
found_in (b ∷ bs) m n e = found_step b bs m (found_in bs) (step m b) n refl e

-- What is found is a block.
pub is_block : (b : List ℕ) (n : ℕ) → block_end b Blank ≡ Some n → (n ≤ length b) × IsBlock (take n b)
unfolding Found Goes
is_block b n e = found_in b Blank n e

none_of : (o : Option ℕ) → one_more o ≡ None → o ≡ None
none_of None e = refl
none_of (Some n) e = absurd (cc (e))

-- Behind bytes in which the block doesn't end it goes on from their mark.
module _ (b : ℕ) (bs ys : List ℕ) (m : Mark) (later : (k : Mark) → block_end bs k ≡ None → (block_end (bs ++ ys) k ≡ add_to (length bs) (block_end ys (mark_after bs k))) × (mark_after (bs ++ ys) k ≡ mark_after ys (mark_after bs k))) where
  append_step : (o : Option Mark) → step m b ≡ o → one_more (at_mark o (Some 0) (block_end bs)) ≡ None
      → (block_end ((b ∷ bs) ++ ys) m ≡ add_to (length (b ∷ bs)) (block_end ys (mark_after (b ∷ bs) m))) × (mark_after ((b ∷ bs) ++ ys) m ≡ mark_after ys (mark_after (b ∷ bs) m))
  append_step None s e = absurd (cc (e))
  append_step (Some k) s e =
      let g = later k (none_of _ e) in
      let n : mark_after (b ∷ bs) m ≡ mark_after bs k = mark_step b bs m k s in (
        rw n (end_step b (bs ++ ys) m k s ∙ (ap (add_to 1) g.0 ∙ add_twice 1 (length bs) (length (b ∷ bs)) (block_end ys (mark_after bs k)) (omega arith))),
        rw n (mark_step b (bs ++ ys) m k s ∙ g.1),
      )

pub block_append : (xs ys : List ℕ) (m : Mark) → block_end xs m ≡ None
    → (block_end (xs ++ ys) m ≡ add_to (length xs) (block_end ys (mark_after xs m))) × (mark_after (xs ++ ys) m ≡ mark_after ys (mark_after xs m))
block_append [] ys m e = (sym (add_none (block_end ys m)), refl)
block_append (b ∷ bs) ys m e = append_step b bs ys m (block_append bs ys) (step m b) refl e
