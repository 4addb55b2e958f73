-- The reading of a combinator and the compound on its right answers exactly what the grammar says.
use Rattle.std.proofs.Common.{◌≡◌, ◌∙◌, subst, ℕ, ◌<◌, ◌≤◌, Bool, true, false, not, cond, ◌⊎◌, inl, inr, Option, Some, None, List, [], ◌∷◌, length, refl, sym, ap, arith}
use Rattle.std.specs.Prelude.{◌==◌}
use Rattle.std.proofs.lemmas.Bool.{true≢false, eqb-true}
use Rattle.std.proofs.lemmas.Option.{none-some, same_Some}
use Rattle.selectors.specs.Characters.{begins, is_white}
use Rattle.selectors.specs.Grammar.{WhiteIs, CompoundIs, SimpleIs, SignIs, child, next, later, CombinatorIs, blank, sign, JoinIs, is_end}
use Rattle.selectors.specs.Reading.{after_white}
use Rattle.selectors.specs.ReadingSimples.{◌>>=◌, compound_at, simple_at}
use Rattle.selectors.specs.ReadingSelectors.{sign_of, right_at, joined_by, join_behind, join_at, goes_on}
use Rattle.selectors.specs.declared.selector.Simple.{Simple}
use Rattle.selectors.specs.declared.selector.Combinator.{Combinator}
use Rattle.selectors.specs.declared.selector.Combinator.TheVariants.{Descendant, Child, Next, Later}
use Rattle.selectors.proofs.Binds.{either, made_of, cond_true, cond_false, differ}
use Rattle.selectors.proofs.CompoundReading.{compound_finds, compound_sound, compound_shrinks, compound_front}
use Rattle.selectors.proofs.SimpleReading.{simple_finds, simple_sound, simple_shrinks, simple_marks}
use Rattle.selectors.proofs.Starts.{is_front, front_white, begins_not}
use Rattle.selectors.proofs.Whites.{white_finds, white_sound, white_sound_at, white_shrinks, white_stops}

pub whole_finds : (text : List ℕ) (simples : List Simple) (rest : List ℕ) → CompoundIs SimpleIs text simples rest → compound_at simple_at text ≡ Some (simples, rest)
whole_finds = compound_finds SimpleIs simple_at simple_finds simple_sound simple_shrinks simple_marks

pub whole_sound : (text : List ℕ) (simples : List Simple) (rest : List ℕ) → compound_at simple_at text ≡ Some (simples, rest) → CompoundIs SimpleIs text simples rest
whole_sound = compound_sound SimpleIs simple_at simple_finds simple_sound simple_shrinks simple_marks

pub whole_shrinks : (text : List ℕ) (simples : List Simple) (rest : List ℕ) → CompoundIs SimpleIs text simples rest → length rest < length text
whole_shrinks = compound_shrinks SimpleIs simple_at simple_finds simple_sound simple_shrinks simple_marks

whole_front : (text : List ℕ) (simples : List Simple) (rest : List ℕ) → CompoundIs SimpleIs text simples rest → begins is_front text ≡ true
whole_front = compound_front SimpleIs simple_at simple_finds simple_sound simple_shrinks simple_marks

pub whole_not_white : (text : List ℕ) (simples : List Simple) (rest : List ℕ) → CompoundIs SimpleIs text simples rest → begins is_white text ≡ false
whole_not_white text simples rest h = begins_not is_front is_white front_white text (whole_front text simples rest h)

-- white space and a compound
pub right_finds : (combinator : Combinator) (text start : List ℕ) (simples : List Simple) (rest : List ℕ) → WhiteIs text start → CompoundIs SimpleIs start simples rest → right_at combinator text ≡ Some ((combinator, simples), rest)
unfolding right_at
right_finds combinator text start simples rest w h =
    ap (λ o. o >>= λ s. Some ((combinator, s.0), s.1)) (ap (compound_at simple_at) (white_finds text start w (whole_not_white start simples rest h)) ∙ whole_finds start simples rest h)

right_sound : (combinator : Combinator) (text : List ℕ) (join : Combinator × List Simple) (rest : List ℕ) → right_at combinator text ≡ Some (join, rest) → (combinator ≡ join.0) × CompoundIs SimpleIs (after_white text) join.1 rest
unfolding right_at
right_sound combinator text join rest e =
    let m = made_of (compound_at simple_at (after_white text)) (λ s. (combinator, s)) join rest e in
    (sym (ap (λ j. j.0) m.2), subst (λ s. CompoundIs SimpleIs (after_white text) s rest) (sym (ap (λ j. j.1) m.2)) (whole_sound (after_white text) m.0 rest m.1))

sign_finds : (c : ℕ) (combinator : Combinator) → SignIs c combinator → sign_of c ≡ Some combinator
sign_finds c combinator child = refl
sign_finds c combinator next = refl
sign_finds c combinator later = refl

sign_white : (c : ℕ) (combinator : Combinator) → SignIs c combinator → is_white c ≡ false
sign_white c combinator child = refl
sign_white c combinator next = refl
sign_white c combinator later = refl

sign_end : (c : ℕ) (combinator : Combinator) → SignIs c combinator → (c == 44) ≡ false
sign_end c combinator child = refl
sign_end c combinator next = refl
sign_end c combinator later = refl

signed : (c d : ℕ) (this combinator : Combinator) (others : Option Combinator) → SignIs d this → (others ≡ Some combinator → SignIs c combinator) → cond (c == d) (Some this) others ≡ Some combinator → SignIs c combinator
signed c d this combinator others s more = either _ (c == d) (Some this) others combinator (λ e t. subst (λ x. SignIs c x) (same_Some this combinator t) (subst (λ x. SignIs x this) (sym (eqb-true c d e)) s)) (λ e t. more t)

sign_sound : (c : ℕ) (combinator : Combinator) → sign_of c ≡ Some combinator → SignIs c combinator
sign_sound c combinator = signed c 62 Child combinator _ child (signed c 43 Next combinator _ next (signed c 126 Later combinator _ later (λ h. absurd (none-some combinator h))))

front_sign : (c : ℕ) → is_front c ≡ true → sign_of c ≡ None
front_sign c h = cond_false (c == 62) _ _ (not_sign 62 refl) ∙ cond_false (c == 43) _ _ (not_sign 43 refl) ∙ cond_false (c == 126) _ _ (not_sign 126 refl)
  where
    not_sign : (d : ℕ) → is_front d ≡ false → (c == d) ≡ false
    not_sign d k = differ is_front c d h k

front_end : (c : ℕ) → is_front c ≡ true → (c == 44) ≡ false
front_end c h = differ is_front c 44 h refl

-- behind white space, where a compound stands
behind_blank : (start : List ℕ) (simples : List Simple) (rest : List ℕ) → CompoundIs SimpleIs start simples rest → begins is_front start ≡ true → join_behind true start ≡ Some ((Descendant, simples), rest)
behind_blank [] simples rest h k = absurd (true≢false (sym k))
behind_blank (c ∷ start) simples rest h k = ap (λ o. joined_by true o c start) (front_sign c k) ∙ right_finds Descendant (c ∷ start) (c ∷ start) simples rest (record { white = []; each = refl; text_is = refl }) h

blank_finds : (text : List ℕ) (c : ℕ) (middle start : List ℕ) (simples : List Simple) (rest : List ℕ) → text ≡ c ∷ middle → is_white c ≡ true → WhiteIs middle start → CompoundIs SimpleIs start simples rest → (begins is_white text ≡ true) × (after_white text ≡ start)
blank_finds text c middle start simples rest e k w h = (ap (begins is_white) e ∙ k, ap after_white e ∙ cond_true (is_white c) _ _ k ∙ white_finds middle start w (whole_not_white start simples rest h))

pub join_finds : (text : List ℕ) (join : Combinator × List Simple) (rest : List ℕ) → JoinIs text join rest → join_at text ≡ Some (join, rest)
unfolding join_at
join_finds text join rest h = go h.combinator
  where
    blank_join : (begins is_white text ≡ true) × (after_white text ≡ h.start) → join.0 ≡ Descendant → join_at text ≡ Some (join, rest)
    blank_join p s = ap (λ b. join_behind b (after_white text)) p.0 ∙ ap (join_behind true) p.1 ∙ behind_blank h.start join.1 rest h.compound (whole_front h.start join.1 rest h.compound) ∙ ap (λ k. Some ((k, join.1), rest)) (sym s)

    sign_join : (c : ℕ) (middle : List ℕ) → WhiteIs text (c ∷ middle) → SignIs c join.0 → WhiteIs middle h.start → join_at text ≡ Some (join, rest)
    sign_join c middle w s v = ap (join_behind (begins is_white text)) (white_finds text (c ∷ middle) w (sign_white c join.0 s)) ∙ ap (λ o. joined_by (begins is_white text) o c middle) (sign_finds c join.0 s) ∙ right_finds join.0 middle h.start join.1 rest v h.compound

    go : CombinatorIs text join.0 h.start → join_at text ≡ Some (join, rest)
    go (blank c middle e k w s) = blank_join (blank_finds text c middle h.start join.1 rest e k w h.compound) s
    go (sign c middle w s v) = sign_join c middle w s v

-- what is read behind white space
behind_sound : (spaced : Bool) (text : List ℕ) (join : Combinator × List Simple) (rest : List ℕ) → join_behind spaced text ≡ Some (join, rest)
    → ((c : ℕ) × (middle : List ℕ) × (text ≡ c ∷ middle) × SignIs c join.0 × CompoundIs SimpleIs (after_white middle) join.1 rest) ⊎ ((spaced ≡ true) × (join.0 ≡ Descendant) × CompoundIs SimpleIs (after_white text) join.1 rest)
behind_sound spaced [] join rest e = absurd (none-some (join, rest) e)
behind_sound spaced (c ∷ text) join rest e = go (sign_of c) refl e
  where
    go : (o : Option Combinator) → sign_of c ≡ o → joined_by spaced o c text ≡ Some (join, rest)
        → ((d : ℕ) × (middle : List ℕ) × ((c ∷ text) ≡ d ∷ middle) × SignIs d join.0 × CompoundIs SimpleIs (after_white middle) join.1 rest) ⊎ ((spaced ≡ true) × (join.0 ≡ Descendant) × CompoundIs SimpleIs (after_white (c ∷ text)) join.1 rest)
    go (Some combinator) s e = let r = right_sound combinator text join rest e in inl (c, text, refl, subst (λ k. SignIs c k) r.0 (sign_sound c combinator s), r.1)
    go None s e = either _ spaced (right_at Descendant (c ∷ text)) None (join, rest) (λ b k. let r = right_sound Descendant (c ∷ text) join rest k in inr (b, sym r.0, r.1)) (λ b k. absurd (none-some (join, rest) k)) e

blank_combinator : (text : List ℕ) → begins is_white text ≡ true → (c : ℕ) × (middle : List ℕ) × (text ≡ c ∷ middle) × (is_white c ≡ true) × (after_white text ≡ after_white middle)
blank_combinator [] e = absurd (true≢false (sym e))
blank_combinator (c ∷ text) e = (c, text, refl, e, cond_true (is_white c) _ _ e)

after_white_twice : (text : List ℕ) → after_white (after_white text) ≡ after_white text
after_white_twice text = white_finds (after_white text) (after_white text) (record { white = []; each = refl; text_is = refl }) (white_stops text)

pub join_sound : (text : List ℕ) (join : Combinator × List Simple) (rest : List ℕ) → join_at text ≡ Some (join, rest) → JoinIs text join rest
unfolding join_at
join_sound text join rest e = go (behind_sound (begins is_white text) (after_white text) join rest e)
  where
    go : ((c : ℕ) × (middle : List ℕ) × (after_white text ≡ c ∷ middle) × SignIs c join.0 × CompoundIs SimpleIs (after_white middle) join.1 rest) ⊎ ((begins is_white text ≡ true) × (join.0 ≡ Descendant) × CompoundIs SimpleIs (after_white (after_white text)) join.1 rest) → JoinIs text join rest
    go (inl p) = record { start = after_white p.1; combinator = sign p.0 p.1 (white_sound_at text (p.0 ∷ p.1) p.2) p.3 (white_sound p.1); compound = p.4 }
    go (inr p) = let b = blank_combinator text p.0 in record { start = after_white text; combinator = blank b.0 b.1 b.2 b.3 (white_sound_at b.1 (after_white text) (sym b.4)) p.1; compound = subst (λ t. CompoundIs SimpleIs t join.1 rest) (after_white_twice text) p.2 }

pub join_shrinks : (text : List ℕ) (join : Combinator × List Simple) (rest : List ℕ) → JoinIs text join rest → length rest < length text
join_shrinks text join rest h = omega (arith, combinator_shrinks h.combinator, whole_shrinks h.start join.1 rest h.compound)
  where
    combinator_shrinks : CombinatorIs text join.0 h.start → length h.start ≤ length text
    combinator_shrinks (blank c middle e k w s) = omega (arith, ap length e, white_shrinks middle h.start w)
    combinator_shrinks (sign c middle w s v) = omega (arith, white_shrinks text (c ∷ middle) w, white_shrinks middle h.start v)

-- a join goes on
pub join_goes_on : (text : List ℕ) (join : Combinator × List Simple) (rest : List ℕ) → JoinIs text join rest → goes_on text ≡ true
join_goes_on text join rest h = go h.combinator
  where
    front_goes : (start : List ℕ) → begins is_front start ≡ true → not (is_end start) ≡ true
    front_goes [] k = absurd (true≢false (sym k))
    front_goes (c ∷ start) k = ap not (front_end c k)

    go : CombinatorIs text join.0 h.start → goes_on text ≡ true
    go (blank c middle e k w s) = ap (λ t. not (is_end t)) (blank_finds text c middle h.start join.1 rest e k w h.compound).1 ∙ front_goes h.start (whole_front h.start join.1 rest h.compound)
    go (sign c middle w s v) = ap (λ t. not (is_end t)) (white_finds text (c ∷ middle) w (sign_white c join.0 s)) ∙ ap not (sign_end c join.0 s)
