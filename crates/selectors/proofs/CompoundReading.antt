-- The reading of a compound answers exactly what the grammar says, if the reading of a simple does.
use Rattle.std.proofs.Common.{◌≡◌, ◌∙◌, subst, ℕ, ◌<◌, true, false, ◌⊎◌, inl, inr, Option, Some, List, [], ◌∷◌, ◌++◌, length, refl, sym, ap, arith}
use Rattle.std.specs.Prelude.{◌==◌}
use Rattle.std.proofs.lemmas.Bool.{true≢false, eqb-true}
use Rattle.std.proofs.lemmas.Option.{none-some, some_pair_parts}
use Rattle.selectors.specs.Characters.{begins}
use Rattle.selectors.specs.Grammar.{RowIs, none, more, FirstIs, tag, any, is_mark, CompoundIs, typed, untyped}
use Rattle.selectors.specs.Reading.{identifier_at}
use Rattle.selectors.specs.ReadingSimples.{◌>>=◌, row_at, marks, in_front, start_at, compound_at}
use Rattle.selectors.specs.declared.selector.Simple.{Simple}
use Rattle.selectors.specs.declared.selector.Simple.TheVariants.{Tag, Any}
use Rattle.selectors.proofs.Binds.{bind_ok, either, made_of, cond_true, cond_false, differ}
use Rattle.selectors.proofs.Identifiers.{is_identifier_at, identifier_at_is}
use Rattle.selectors.proofs.NameStarts.{is_start, identifier_starts, identifier_shrinks}
use Rattle.selectors.proofs.Rowed.{Shrinks, Finds, Sound, row_finds, row_sound, row_shrinks}
use Rattle.selectors.proofs.Starts.{start_mark, is_front, starts_front, marks_front}

first_starts : (text : List ℕ) (first : Simple) (middle : List ℕ) → FirstIs text first middle → start_at text ≡ Some (first ∷ [], middle)
unfolding start_at
first_starts text first middle (any t e) = ap start_at t ∙ ap (λ f. Some (f ∷ [], middle)) (sym e)
first_starts text first middle (tag value i e) = tag_starts text (identifier_starts text value middle i) (is_identifier_at text value middle i) ∙ ap (λ f. Some (f ∷ [], middle)) (sym e)
  where
    tag_starts : (text : List ℕ) → begins is_start text ≡ true → identifier_at text ≡ Some (value, middle) → start_at text ≡ Some (Tag value ∷ [], middle)
    tag_starts [] s i = absurd (true≢false (sym s))
    tag_starts (c ∷ text) s i = cond_false (c == 42) _ _ (differ is_start c 42 s refl) ∙ cond_false (is_mark c) _ _ (start_mark c s) ∙ ap (λ o. o >>= λ t. Some (Tag t.0 ∷ [], t.1)) i

mark_starts : (text : List ℕ) → marks text ≡ true → start_at text ≡ Some ([], text)
unfolding start_at
mark_starts [] m = absurd (true≢false (sym m))
mark_starts (c ∷ text) m = cond_false (c == 42) _ _ (differ is_mark c 42 m refl) ∙ cond_true (is_mark c) _ _ m

start_sound : (text : List ℕ) (front : List Simple) (middle : List ℕ) → start_at text ≡ Some (front, middle)
    → ((first : Simple) × (front ≡ first ∷ []) × FirstIs text first middle) ⊎ ((front ≡ []) × (middle ≡ text) × (marks text ≡ true))
unfolding start_at
start_sound [] front middle e = absurd (none-some (front, middle) e)
start_sound (c ∷ text) front middle e =
    either _ (c == 42) (Some (Any ∷ [], text)) _ (front, middle) (λ t s. let p = some_pair_parts (Any ∷ []) front text middle s in inl (Any, sym p.0, any (ap (λ x. x ∷ text) (eqb-true c 42 t) ∙ ap (λ x. 42 ∷ x) p.1) refl))
    (λ t. either _ (is_mark c) (Some ([], c ∷ text)) _ (front, middle) (λ m s. let p = some_pair_parts [] front (c ∷ text) middle s in inr (sym p.0, sym p.1, m))
    (λ m s. let o = made_of (identifier_at (c ∷ text)) (λ t. Tag t ∷ []) front middle s in inl (Tag o.0, o.2, tag o.0 (identifier_at_is (c ∷ text) o.0 middle o.1) refl))) e

module _ (Is : List ℕ → Simple → List ℕ → Type 0) (simple_at : List ℕ → Option (Simple × List ℕ)) (finds : Finds Simple Is simple_at) (sound : Sound Simple Is simple_at)
    (less : (text : List ℕ) (simple : Simple) (rest : List ℕ) → Is text simple rest → length rest < length text) (marked : (text : List ℕ) (simple : Simple) (rest : List ℕ) → Is text simple rest → marks text ≡ true) where
  shrinks : Shrinks Simple simple_at
  shrinks text simple rest e = less text simple rest (sound text simple rest e)

  simples_find : (text : List ℕ) (simples : List Simple) (rest : List ℕ) → RowIs Simple Is text simples rest → marks rest ≡ false → row_at marks simple_at text ≡ Some (simples, rest)
  simples_find = row_finds Simple Is marks simple_at refl shrinks finds marked

  -- what stands first only, and the others
  further_finds : (text middle : List ℕ) (front others : List Simple) (rest : List ℕ) → start_at text ≡ Some (front, middle) → RowIs Simple Is middle others rest → marks rest ≡ false → compound_at simple_at text ≡ Some (front ++ others, rest)
  unfolding compound_at
  further_finds text middle front others rest e r k = ap (λ o. o >>= λ s. in_front s.0 (row_at marks simple_at s.1)) e ∙ ap (λ o. in_front front o) (simples_find middle others rest r k)

  row_marks : (text : List ℕ) (first : Simple) (others : List Simple) (rest : List ℕ) → RowIs Simple Is text (first ∷ others) rest → marks text ≡ true
  row_marks _ _ _ _ (more text item middle items rest h r) = marked text item middle h

  pub compound_finds : (text : List ℕ) (simples : List Simple) (rest : List ℕ) → CompoundIs Is text simples rest → compound_at simple_at text ≡ Some (simples, rest)
  compound_finds text simples rest (typed first middle others f r k s) = further_finds text middle (first ∷ []) others rest (first_starts text first middle f) r k ∙ ap (λ x. Some (x, rest)) (sym s)
  compound_finds text simples rest (untyped first others r k s) = further_finds text text [] (first ∷ others) rest (mark_starts text (row_marks text first others rest r)) r k ∙ ap (λ x. Some (x, rest)) (sym s)

  typed_sound : (text : List ℕ) (first : Simple) (middle : List ℕ) (simples : List Simple) (rest : List ℕ) → FirstIs text first middle → in_front (first ∷ []) (row_at marks simple_at middle) ≡ Some (simples, rest) → CompoundIs Is text simples rest
  typed_sound text first middle simples rest f e =
      let m = made_of (row_at marks simple_at middle) (λ s. first ∷ s) simples rest e in
      let r = row_sound Simple Is marks simple_at refl shrinks sound middle m.0 rest m.1 in
      typed first middle m.0 f r.0 r.1 m.2

  row_compound : (text : List ℕ) (simples : List Simple) (rest : List ℕ) → marks text ≡ true → marks rest ≡ false → RowIs Simple Is text simples rest → CompoundIs Is text simples rest
  row_compound _ _ _ m k (none rest) = absurd (true≢false (sym m ∙ k))
  row_compound _ _ _ m k (more text item middle items rest h r) = untyped item items (more text item middle items rest h r) k refl

  untyped_sound : (text : List ℕ) (simples : List Simple) (rest : List ℕ) → marks text ≡ true → in_front [] (row_at marks simple_at text) ≡ Some (simples, rest) → CompoundIs Is text simples rest
  untyped_sound text simples rest m e =
      let o = made_of (row_at marks simple_at text) (λ s. s) simples rest e in
      let r = row_sound Simple Is marks simple_at refl shrinks sound text o.0 rest o.1 in
      row_compound text simples rest m r.1 (subst (λ s. RowIs Simple Is text s rest) (sym o.2) r.0)

  pub compound_sound : (text : List ℕ) (simples : List Simple) (rest : List ℕ) → compound_at simple_at text ≡ Some (simples, rest) → CompoundIs Is text simples rest
  unfolding compound_at
  compound_sound text simples rest e = go (bind_ok (start_at text) (λ s. in_front s.0 (row_at marks simple_at s.1)) (simples, rest) e)
    where
      go : (s : List Simple × List ℕ) × (start_at text ≡ Some s) × (in_front s.0 (row_at marks simple_at s.1) ≡ Some (simples, rest)) → CompoundIs Is text simples rest
      go p = elim (start_sound text p.0.0 p.0.1 p.1) [
        | inl f ↦ typed_sound text f.0 p.0.1 simples rest f.2 (ap (λ x. in_front x (row_at marks simple_at p.0.1)) (sym f.1) ∙ p.2)
        | inr f ↦ untyped_sound text simples rest f.2 (ap (λ x. in_front [] (row_at marks simple_at x)) (sym f.1) ∙ ap (λ x. in_front x (row_at marks simple_at p.0.1)) (sym f.0) ∙ p.2)
      ]

  first_shrinks : (text : List ℕ) (first : Simple) (middle : List ℕ) → FirstIs text first middle → length middle < length text
  first_shrinks text first middle (tag value i e) = identifier_shrinks text value middle i
  first_shrinks text first middle (any t e) = omega (arith, ap length t)

  pub compound_shrinks : (text : List ℕ) (simples : List Simple) (rest : List ℕ) → CompoundIs Is text simples rest → length rest < length text
  compound_shrinks text simples rest (typed first middle others f r k s) = omega (arith, first_shrinks text first middle f, row_shrinks Simple Is less middle others rest r)
  compound_shrinks text simples rest (untyped first others r k s) = go text (first ∷ others) rest refl r
    where
      go : (text : List ℕ) (simples : List Simple) (rest : List ℕ) → simples ≡ first ∷ others → RowIs Simple Is text simples rest → length rest < length text
      go _ _ _ e (none rest) = cc
      go _ _ _ e (more text item middle items rest h r) = omega (arith, less text item middle h, row_shrinks Simple Is less middle items rest r)

  pub compound_front : (text : List ℕ) (simples : List Simple) (rest : List ℕ) → CompoundIs Is text simples rest → begins is_front text ≡ true
  compound_front text simples rest (typed first middle others (tag value i e) r k s) = starts_front text (identifier_starts text value middle i)
  compound_front text simples rest (typed first middle others (any t e) r k s) = ap (begins is_front) t
  compound_front text simples rest (untyped first others r k s) = marks_front text (row_marks text first others rest r)
