-- The reading of a whole text answers exactly what the grammar says.
use Rattle.std.proofs.Common.{◌≡◌, ◌∙◌, subst, ℕ, ◌<◌, true, false, not, Some, None, List, [], ◌∷◌, length, refl, sym, ap, arith}
use Rattle.std.specs.Prelude.{◌==◌}
use Rattle.std.specs.List.{list_any}
use Rattle.std.proofs.lemmas.Bool.{true≢false, eqb-true, not-false}
use Rattle.std.proofs.lemmas.Option.{none-some, same_Some, some_pair_parts}
use Rattle.selectors.specs.Characters.{begins, is_white}
use Rattle.selectors.specs.Grammar.{RowIs, none, more, JoinIs, ComplexIs, is_end, AlternativeIs, FurtherIs, GrammarIs}
use Rattle.selectors.specs.Reading.{after_white}
use Rattle.selectors.specs.ReadingSimples.{◌>>=◌, behind_character, row_at, in_front, compound_at, simple_at}
use Rattle.selectors.specs.ReadingSelectors.{join_at, goes_on, alternative_at, next_at, has_more, alternatives_at, selector_in}
use Rattle.selectors.specs.declared.selector.Simple.{Simple}
use Rattle.selectors.specs.declared.selector.Combinator.{Combinator}
use Rattle.selectors.specs.declared.selector.Complex.{Complex}
use Rattle.selectors.proofs.Binds.{bind_ok, either, made_of, cond_false, behind_is, behind_finds}
use Rattle.selectors.proofs.Joins.{whole_finds, whole_sound, whole_shrinks, whole_not_white, join_finds, join_sound, join_shrinks, join_goes_on}
use Rattle.selectors.proofs.Rowed.{row_finds, row_sound, row_shrinks}
use Rattle.selectors.proofs.Whites.{white_finds, white_sound, white_shrinks}

abbrev Join : Type 0
Join = Combinator × List Simple

end_white : (text : List ℕ) → is_end text ≡ true → begins is_white text ≡ false
end_white [] e = refl
end_white (c ∷ text) e = ap is_white (eqb-true c 44 e)

pub joins_shrink : (text : List ℕ) (join : Join) (rest : List ℕ) → join_at text ≡ Some (join, rest) → length rest < length text
joins_shrink text join rest e = join_shrinks text join rest (join_sound text join rest e)

joins_find : (text : List ℕ) (joins : List Join) (rest : List ℕ) → RowIs Join JoinIs text joins rest → goes_on rest ≡ false → row_at goes_on join_at text ≡ Some (joins, rest)
joins_find = row_finds Join JoinIs goes_on join_at refl joins_shrink join_finds join_goes_on

joins_sound : (text : List ℕ) (joins : List Join) (rest : List ℕ) → row_at goes_on join_at text ≡ Some (joins, rest) → RowIs Join JoinIs text joins rest × (goes_on rest ≡ false)
joins_sound = row_sound Join JoinIs goes_on join_at refl joins_shrink join_sound

alternative_finds : (text : List ℕ) (complex : Complex) (rest : List ℕ) → AlternativeIs text complex rest → alternative_at text ≡ Some (complex, rest)
unfolding alternative_at
alternative_finds text complex rest h =
    let x = h.complex_is in
    let w = white_finds h.end rest h.after (end_white rest h.ends) in
    ap (λ o. o >>= λ f. row_at goes_on join_at f.1 >>= λ j. Some (record { first = f.0; rest = j.0 }, after_white j.1)) (ap (compound_at simple_at) (white_finds text h.start h.before (whole_not_white h.start complex.first x.middle x.first)) ∙ whole_finds h.start complex.first x.middle x.first)
    ∙ ap (λ o. o >>= λ j. Some (record { first = complex.first; rest = j.0 }, after_white j.1)) (joins_find x.middle complex.rest h.end x.joins (ap (λ t. not (is_end t)) w ∙ ap not h.ends))
    ∙ ap (λ r. Some (complex, r)) w

alternative_sound : (text : List ℕ) (complex : Complex) (rest : List ℕ) → alternative_at text ≡ Some (complex, rest) → AlternativeIs text complex rest
unfolding alternative_at
alternative_sound text complex rest e =
    let a = bind_ok (compound_at simple_at (after_white text)) (λ f. row_at goes_on join_at f.1 >>= λ j. Some (record { first = f.0; rest = j.0 }, after_white j.1)) (complex, rest) e in
    let b = bind_ok (row_at goes_on join_at a.0.1) (λ j. Some (record { first = a.0.0; rest = j.0 }, after_white j.1)) (complex, rest) a.2 in
    let p = some_pair_parts (record { first = a.0.0; rest = b.0.0 }) complex (after_white b.0.1) rest b.2 in
    let j = joins_sound a.0.1 b.0.0 b.0.1 b.1 in
    let x : ComplexIs (after_white text) (record { first = a.0.0; rest = b.0.0 }) b.0.1 = record { middle = a.0.1; first = whole_sound (after_white text) a.0.0 a.0.1 a.1; joins = j.0 } in
    subst (λ c. AlternativeIs text c rest) p.0 (subst (λ r. AlternativeIs text (record { first = a.0.0; rest = b.0.0 }) r) p.1 (record { start = after_white text; end = b.0.1; before = white_sound text; complex_is = x; after = white_sound b.0.1; ends = not-false (is_end (after_white b.0.1)) j.1 }))

alternative_shrinks : (text : List ℕ) (complex : Complex) (rest : List ℕ) → AlternativeIs text complex rest → length rest < length text
alternative_shrinks text complex rest h =
    let x = h.complex_is in
    omega (arith, white_shrinks text h.start h.before, whole_shrinks h.start complex.first x.middle x.first, row_shrinks Join JoinIs join_shrinks x.middle complex.rest h.end x.joins, white_shrinks h.end rest h.after)

next_finds : (text : List ℕ) (complex : Complex) (rest : List ℕ) → FurtherIs text complex rest → next_at text ≡ Some (complex, rest)
unfolding next_at
next_finds text complex rest h = ap next_at h.text_is ∙ ap (λ o. o >>= alternative_at) (behind_finds 44 h.middle) ∙ alternative_finds h.middle complex rest h.alternative

next_sound : (text : List ℕ) (complex : Complex) (rest : List ℕ) → next_at text ≡ Some (complex, rest) → FurtherIs text complex rest
unfolding next_at
next_sound text complex rest e = let b = bind_ok (behind_character 44 text) alternative_at (complex, rest) e in record { middle = b.0; text_is = behind_is 44 text b.0 b.1; alternative = alternative_sound b.0 complex rest b.2 }

further_shrinks : (text : List ℕ) (complex : Complex) (rest : List ℕ) → FurtherIs text complex rest → length rest < length text
further_shrinks text complex rest h = omega (arith, ap length h.text_is, alternative_shrinks h.middle complex rest h.alternative)

pub next_shrinks : (text : List ℕ) (complex : Complex) (rest : List ℕ) → next_at text ≡ Some (complex, rest) → length rest < length text
next_shrinks text complex rest e = further_shrinks text complex rest (next_sound text complex rest e)

further_has_more : (text : List ℕ) (complex : Complex) (rest : List ℕ) → FurtherIs text complex rest → has_more text ≡ true
further_has_more text complex rest h = ap has_more h.text_is

others_end : (text : List ℕ) (others : List Complex) (rest : List ℕ) → RowIs Complex FurtherIs text others rest → is_end text ≡ true → is_end rest ≡ true
others_end _ _ _ (none rest) e = e
others_end _ _ _ (more text complex middle others rest h r) e = others_end middle others rest r h.alternative.ends

-- an end where no ',' stands
nothing_left : (rest : List ℕ) → is_end rest ≡ true → has_more rest ≡ false → rest ≡ []
nothing_left [] e k = refl
nothing_left (c ∷ rest) e k = absurd (true≢false (sym e ∙ k))

alternatives_find : (text : List ℕ) (first : Complex) (others : List Complex) (middle : List ℕ) → AlternativeIs text first middle → RowIs Complex FurtherIs middle others [] → alternatives_at text ≡ Some (first ∷ others)
unfolding alternatives_at
alternatives_find text first others middle h r =
    ap (λ o. o >>= λ f. in_front (f.0 ∷ []) (row_at has_more next_at f.1) >>= λ s. Some s.0) (alternative_finds text first middle h)
    ∙ ap (λ o. in_front (first ∷ []) o >>= λ s. Some s.0) (row_finds Complex FurtherIs has_more next_at refl next_shrinks next_finds further_has_more middle others [] r refl)

pub selector_finds : (text : List ℕ) (selector : List Complex) → GrammarIs text selector → selector_in text ≡ Some selector
unfolding selector_in
selector_finds text selector h = cond_false (list_any (λ c. c == 0) text) _ _ h.no_zero ∙ alternatives_find text h.first h.others h.middle h.first_is h.others_are ∙ ap Some (sym h.selector_is)

alternatives_sound : (text : List ℕ) (selector : List Complex) → list_any (λ c. c == 0) text ≡ false → alternatives_at text ≡ Some selector → GrammarIs text selector
unfolding alternatives_at
alternatives_sound text selector z e =
    let a = bind_ok (alternative_at text) (λ f. in_front (f.0 ∷ []) (row_at has_more next_at f.1) >>= λ s. Some s.0) selector e in
    let d = bind_ok (in_front (a.0.0 ∷ []) (row_at has_more next_at a.0.1)) (λ s. Some s.0) selector a.2 in
    let b = made_of (row_at has_more next_at a.0.1) (λ s. a.0.0 ∷ s) d.0.0 d.0.1 d.1 in
    let f = alternative_sound text a.0.0 a.0.1 a.1 in
    let r = row_sound Complex FurtherIs has_more next_at refl next_shrinks next_sound a.0.1 b.0 d.0.1 b.1 in
    let l = nothing_left d.0.1 (others_end a.0.1 b.0 d.0.1 r.0 f.ends) r.1 in
    record { first = a.0.0; others = b.0; middle = a.0.1; no_zero = z; first_is = f; others_are = subst (λ t. RowIs Complex FurtherIs a.0.1 b.0 t) l r.0; selector_is = sym (same_Some d.0.0 selector d.2) ∙ b.2 }

pub selector_sound : (text : List ℕ) (selector : List Complex) → selector_in text ≡ Some selector → GrammarIs text selector
unfolding selector_in
selector_sound text selector e = either _ (list_any (λ c. c == 0) text) None (alternatives_at text) selector (λ z s. absurd (none-some selector s)) (λ z s. alternatives_sound text selector z s) e

pub one_selector : (text : List ℕ) (one other : List Complex) → GrammarIs text one → GrammarIs text other → one ≡ other
one_selector text one other h k = same_Some one other (sym (selector_finds text one h) ∙ selector_finds text other k)
