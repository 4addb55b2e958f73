-- The reading of a simple, a `:not` among them, answers exactly what the grammar says.
use Rattle.std.proofs.Common.{◌≡◌, ◌∙◌, subst, ℕ, ◌<◌, Bool, true, false, cond, Some, List, [], ◌∷◌, ◌++◌, length, refl, sym, ap, arith}
use Rattle.std.specs.Prelude.{◌==◌, codes}
use Rattle.std.specs.Str.{bytes_eq}
use Rattle.std.proofs.lemmas.Bool.{true≢false, eqb-true}
use Rattle.std.proofs.lemmas.Option.{none-some, some_pair_parts}
use Rattle.selectors.specs.Characters.{begins, is_white}
use Rattle.selectors.specs.Grammar.{WhiteIs, PseudoIs, WordIs, first_child, last_child, empty, root, checked, enabled, disabled, PlainIs, id, class, has, attribute, alone, nth, CompoundIs, SimpleIs, plain, negated}
use Rattle.selectors.specs.Reading.{after_white}
use Rattle.selectors.specs.ReadingSimples.{◌>>=◌, behind_character, word_in, past_word, marks, plain_at, compound_at, not_at, is_not, simple_at}
use Rattle.selectors.specs.declared.selector.Simple.{Simple}
use Rattle.selectors.specs.declared.selector.Simple.TheVariants.{Not}
use Rattle.selectors.proofs.Binds.{bind_ok, either, cond_true, cond_false, behind_is}
use Rattle.selectors.proofs.CompoundReading.{compound_finds, compound_sound, compound_shrinks, compound_front}
use Rattle.selectors.proofs.Lesser.{pseudo_shrinks, plain_shrinks}
use Rattle.selectors.proofs.Plains.{plain_finds, plain_sound}
use Rattle.selectors.proofs.Starts.{is_front, front_white, begins_not}
use Rattle.selectors.proofs.Whites.{white_finds, white_sound, white_sound_at, white_shrinks}
use Rattle.selectors.proofs.Words.{word_finds, past_word_finds, pseudo_sound, word_passes, same_word}

plain_marks : (text : List ℕ) (simple : Simple) (rest : List ℕ) → PlainIs text simple rest → marks text ≡ true
plain_marks text simple rest (id start value e i s) = ap marks e
plain_marks text simple rest (class start value e i s) = ap marks e
plain_marks text simple rest (has inside start name end e w i v s) = ap marks e
plain_marks text simple rest (attribute name test value h s) = ap marks h.text_is
plain_marks text simple rest (alone name p w) = ap marks p.text_is
plain_marks text simple rest (nth inside a b p h s) = ap marks p.text_is

word_is_not : (word : List ℕ) (simple : Simple) → WordIs word simple → bytes_eq word (codes "not") ≡ false
word_is_not word simple first_child = refl
word_is_not word simple last_child = refl
word_is_not word simple empty = refl
word_is_not word simple root = refl
word_is_not word simple checked = refl
word_is_not word simple enabled = refl
word_is_not word simple disabled = refl

plain_is_not : (text : List ℕ) (simple : Simple) (rest : List ℕ) → PlainIs text simple rest → is_not text ≡ false
plain_is_not text simple rest (id start value e i s) = ap is_not e
plain_is_not text simple rest (class start value e i s) = ap is_not e
plain_is_not text simple rest (has inside start name end e w i v s) = ap is_not e
plain_is_not text simple rest (attribute name test value h s) = ap is_not h.text_is
plain_is_not text simple rest (alone name p w) = ap is_not p.text_is ∙ ap (λ v. bytes_eq v (codes "not")) (word_finds p.written name rest p.word_is (word_passes name simple w) p.whole) ∙ word_is_not name simple w
plain_is_not text simple rest (nth inside a b p h s) = ap is_not p.text_is ∙ ap (λ v. bytes_eq v (codes "not")) (word_finds p.written (codes "nth-child") (40 ∷ inside) p.word_is refl p.whole)

simple_is_plain : (text : List ℕ) (simple : Simple) (rest : List ℕ) → is_not text ≡ false → plain_at text ≡ Some (simple, rest) → simple_at text ≡ Some (simple, rest)
unfolding simple_at plain_at
simple_is_plain [] simple rest k e = e
simple_is_plain (c ∷ text) simple rest k e = cond_false (is_not (c ∷ text)) _ _ k ∙ e

-- the compound of a `:not`
inner_finds : (text : List ℕ) (simples : List Simple) (rest : List ℕ) → CompoundIs PlainIs text simples rest → compound_at plain_at text ≡ Some (simples, rest)
inner_finds = compound_finds PlainIs plain_at plain_finds plain_sound plain_shrinks plain_marks

inner_sound : (text : List ℕ) (simples : List Simple) (rest : List ℕ) → compound_at plain_at text ≡ Some (simples, rest) → CompoundIs PlainIs text simples rest
inner_sound = compound_sound PlainIs plain_at plain_finds plain_sound plain_shrinks plain_marks

inner_not_white : (text : List ℕ) (simples : List Simple) (rest : List ℕ) → CompoundIs PlainIs text simples rest → begins is_white text ≡ false
inner_not_white text simples rest h = begins_not is_front is_white front_white text (compound_front PlainIs plain_at plain_finds plain_sound plain_shrinks plain_marks text simples rest h)

not_finds : (inside start : List ℕ) (simples : List Simple) (end rest : List ℕ) → WhiteIs inside start → CompoundIs PlainIs start simples end → WhiteIs end (41 ∷ rest) → not_at (40 ∷ inside) ≡ Some (Not simples, rest)
unfolding not_at
not_finds inside start simples end rest w h v =
    ap (λ o. o >>= λ s. behind_character 41 (after_white s.1) >>= λ r. Some (Not s.0, r)) (ap (compound_at plain_at) (white_finds inside start w (inner_not_white start simples end h)) ∙ inner_finds start simples end h)
    ∙ ap (λ t. behind_character 41 t >>= λ r. Some (Not simples, r)) (white_finds end (41 ∷ rest) v refl)

not_sound : (text : List ℕ) (simple : Simple) (rest : List ℕ) → not_at text ≡ Some (simple, rest) → (inside : List ℕ) × (start : List ℕ) × (simples : List Simple) × (end : List ℕ) × (text ≡ 40 ∷ inside) × WhiteIs inside start × CompoundIs PlainIs start simples end × WhiteIs end (41 ∷ rest) × (simple ≡ Not simples)
unfolding not_at
not_sound text simple rest e =
    let a = bind_ok (behind_character 40 text) (λ inside. compound_at plain_at (after_white inside) >>= λ s. behind_character 41 (after_white s.1) >>= λ r. Some (Not s.0, r)) (simple, rest) e in
    let b = bind_ok (compound_at plain_at (after_white a.0)) (λ s. behind_character 41 (after_white s.1) >>= λ r. Some (Not s.0, r)) (simple, rest) a.2 in
    let d = bind_ok (behind_character 41 (after_white b.0.1)) (λ r. Some (Not b.0.0, r)) (simple, rest) b.2 in
    let p = some_pair_parts (Not b.0.0) simple d.0 rest d.2 in
    (a.0, after_white a.0, b.0.0, b.0.1, behind_is 40 text a.0 a.1, white_sound a.0, inner_sound (after_white a.0) b.0.0 b.0.1 b.1, white_sound_at b.0.1 (41 ∷ rest) (behind_is 41 (after_white b.0.1) d.0 d.1 ∙ ap (λ x. 41 ∷ x) p.1), sym p.0)

negated_finds : (text : List ℕ) (inside start : List ℕ) (simples : List Simple) (end rest : List ℕ) → PseudoIs text (codes "not") (40 ∷ inside) → WhiteIs inside start → CompoundIs PlainIs start simples end → WhiteIs end (41 ∷ rest) → simple_at text ≡ Some (Not simples, rest)
unfolding simple_at
negated_finds text inside start simples end rest p w h v =
    ap simple_at p.text_is
    ∙ cond_true (bytes_eq (word_in (p.written ++ 40 ∷ inside)) (codes "not")) _ _ (ap (λ x. bytes_eq x (codes "not")) (word_finds p.written (codes "not") (40 ∷ inside) p.word_is refl refl))
    ∙ ap not_at (past_word_finds p.written (codes "not") (40 ∷ inside) p.word_is refl refl)
    ∙ not_finds inside start simples end rest w h v

pub simple_finds : (text : List ℕ) (simple : Simple) (rest : List ℕ) → SimpleIs text simple rest → simple_at text ≡ Some (simple, rest)
simple_finds text simple rest (plain h) = simple_is_plain text simple rest (plain_is_not text simple rest h) (plain_finds text simple rest h)
simple_finds text simple rest (negated inside start simples end p w h v s) = negated_finds text inside start simples end rest p w h v ∙ ap (λ x. Some (x, rest)) (sym s)

negated_sound : (c : ℕ) (text : List ℕ) (simple : Simple) (rest : List ℕ) → c ≡ 58 → bytes_eq (word_in text) (codes "not") ≡ true → not_at (past_word text) ≡ Some (simple, rest) → SimpleIs (c ∷ text) simple rest
negated_sound c text simple rest e k h =
    let n = not_sound (past_word text) simple rest h in
    let p = subst (λ w. PseudoIs (58 ∷ text) w (40 ∷ n.0)) (same_word (word_in text) (codes "not") k) (subst (λ r. PseudoIs (58 ∷ text) (word_in text) r) n.4 (pseudo_sound text)) in
    negated n.0 n.1 n.2 n.3 (subst (λ d. PseudoIs (d ∷ text) (codes "not") (40 ∷ n.0)) (sym e) p) n.5 n.6 n.7 n.8

is_not_parts : (c : ℕ) (text : List ℕ) → is_not (c ∷ text) ≡ true → (c ≡ 58) × (bytes_eq (word_in text) (codes "not") ≡ true)
is_not_parts c text e = go (c == 58) refl e
  where
    go : (b : Bool) → (c == 58) ≡ b → cond b (bytes_eq (word_in text) (codes "not")) false ≡ true → (c ≡ 58) × (bytes_eq (word_in text) (codes "not") ≡ true)
    go true k e = (eqb-true c 58 k, e)
    go false k e = absurd (true≢false (sym e))

pub simple_sound : (text : List ℕ) (simple : Simple) (rest : List ℕ) → simple_at text ≡ Some (simple, rest) → SimpleIs text simple rest
unfolding simple_at
simple_sound [] simple rest e = absurd (none-some (simple, rest) e)
simple_sound (c ∷ text) simple rest e = either _ (is_not (c ∷ text)) (not_at (past_word text)) (plain_at (c ∷ text)) (simple, rest)
    (λ k s. let p = is_not_parts c text k in negated_sound c text simple rest p.0 p.1 s)
    (λ k s. plain (plain_sound (c ∷ text) simple rest s)) e

pub simple_shrinks : (text : List ℕ) (simple : Simple) (rest : List ℕ) → SimpleIs text simple rest → length rest < length text
simple_shrinks text simple rest (plain h) = plain_shrinks text simple rest h
simple_shrinks text simple rest (negated inside start simples end p w h v s) =
    omega (arith, pseudo_shrinks text (codes "not") (40 ∷ inside) p, white_shrinks inside start w, compound_shrinks PlainIs plain_at plain_finds plain_sound plain_shrinks plain_marks start simples end h, white_shrinks end (41 ∷ rest) v)

pub simple_marks : (text : List ℕ) (simple : Simple) (rest : List ℕ) → SimpleIs text simple rest → marks text ≡ true
simple_marks text simple rest (plain h) = plain_marks text simple rest h
simple_marks text simple rest (negated inside start simples end p w h v s) = ap marks p.text_is
