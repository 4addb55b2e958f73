-- The reading of a simple that isn't a `:not` answers exactly what the grammar says.
use Rattle.std.proofs.Common.{◌≡◌, ◌∙◌, subst, ℕ, true, false, cond, Option, Some, None, List, [], ◌∷◌, ◌++◌, refl, sym, ap}
use Rattle.std.specs.Prelude.{◌==◌, ℤ, codes}
use Rattle.std.specs.Str.{bytes_eq, str_to_ascii_lowercase}
use Rattle.std.proofs.lemmas.Bool.{eqb-true}
use Rattle.std.proofs.lemmas.Option.{none-some, some_pair_parts}
use Rattle.selectors.specs.Characters.{begins, is_name_character}
use Rattle.selectors.specs.Steps.{ArgumentIs}
use Rattle.selectors.specs.Grammar.{PseudoIs, WordIs, first_child, last_child, empty, root, checked, enabled, disabled, PlainIs, id, class, has, attribute, alone, nth}
use Rattle.selectors.specs.ReadingSteps.{argument_at}
use Rattle.selectors.specs.ReadingSimples.{◌>>=◌, behind_character, named_at, bracket_at, word_in, past_word, word_simple, nth_at, pseudo_at, plain_at}
use Rattle.selectors.specs.declared.selector.Simple.{Simple}
use Rattle.selectors.specs.declared.selector.Simple.TheVariants.{Id, Class, Nth}
use Rattle.selectors.proofs.Binds.{bind_ok, either, made_of, behind_is}
use Rattle.selectors.proofs.Bracketed.{named_finds, named_sound, has_finds, attribute_finds, bracket_sound}
use Rattle.selectors.proofs.Arguments.{is_argument_at, argument_at_is}
use Rattle.selectors.proofs.Words.{word_finds, past_word_finds, pseudo_sound, word_simple_finds, word_simple_sound, word_passes, same_word}

not_nth : (name : List ℕ) (simple : Simple) → WordIs name simple → bytes_eq name (codes "nth-child") ≡ false
not_nth name simple first_child = refl
not_nth name simple last_child = refl
not_nth name simple empty = refl
not_nth name simple root = refl
not_nth name simple checked = refl
not_nth name simple enabled = refl
not_nth name simple disabled = refl

pseudo_word_finds : (written name rest : List ℕ) (simple : Simple) → str_to_ascii_lowercase written ≡ name → begins is_name_character rest ≡ false → WordIs name simple → pseudo_at (written ++ rest) ≡ Some (simple, rest)
unfolding pseudo_at
pseudo_word_finds written name rest simple e k w =
    let text = written ++ rest in
    ap (λ v. cond (bytes_eq v (codes "nth-child")) (nth_at (past_word text)) (word_simple v >>= λ s. Some (s, past_word text))) (word_finds written name rest e (word_passes name simple w) k)
    ∙ ap (λ b. cond b (nth_at (past_word text)) (word_simple name >>= λ s. Some (s, past_word text))) (not_nth name simple w)
    ∙ ap (λ o. o >>= λ s. Some (s, past_word text)) (word_simple_finds name simple w)
    ∙ ap (λ r. Some (simple, r)) (past_word_finds written name rest e (word_passes name simple w) k)

nth_finds : (inside : List ℕ) (a b : ℤ) (rest : List ℕ) → ArgumentIs inside a b rest → nth_at (40 ∷ inside) ≡ Some (Nth a b, rest)
unfolding nth_at
nth_finds inside a b rest h = ap (λ o. o >>= λ x. Some (Nth x.0.0 x.0.1, x.1)) (is_argument_at inside a b rest h)

nth_sound : (text : List ℕ) (simple : Simple) (rest : List ℕ) → nth_at text ≡ Some (simple, rest) → (inside : List ℕ) × (a : ℤ) × (b : ℤ) × (text ≡ 40 ∷ inside) × ArgumentIs inside a b rest × (simple ≡ Nth a b)
unfolding nth_at
nth_sound text simple rest h =
    let a = bind_ok (behind_character 40 text) (λ inside. argument_at inside >>= λ x. Some (Nth x.0.0 x.0.1, x.1)) (simple, rest) h in
    let m = made_of (argument_at a.0) (λ x. Nth x.0 x.1) simple rest a.2 in
    (a.0, m.0.0, m.0.1, behind_is 40 text a.0 a.1, argument_at_is a.0 m.0.0 m.0.1 rest m.1, m.2)

pseudo_nth_finds : (written inside : List ℕ) (a b : ℤ) (rest : List ℕ) → str_to_ascii_lowercase written ≡ codes "nth-child" → ArgumentIs inside a b rest → pseudo_at (written ++ 40 ∷ inside) ≡ Some (Nth a b, rest)
unfolding pseudo_at
pseudo_nth_finds written inside a b rest e h =
    let text = written ++ 40 ∷ inside in
    ap (λ v. cond (bytes_eq v (codes "nth-child")) (nth_at (past_word text)) (word_simple v >>= λ s. Some (s, past_word text))) (word_finds written (codes "nth-child") (40 ∷ inside) e refl refl)
    ∙ ap nth_at (past_word_finds written (codes "nth-child") (40 ∷ inside) e refl refl)
    ∙ nth_finds inside a b rest h

pseudo_is_sound : (text : List ℕ) (simple : Simple) (rest : List ℕ) → pseudo_at text ≡ Some (simple, rest) → PlainIs (58 ∷ text) simple rest
unfolding pseudo_at
pseudo_is_sound text simple rest h = either _ (bytes_eq (word_in text) (codes "nth-child")) (nth_at (past_word text)) _ (simple, rest) with_argument without h
  where
    with_argument : bytes_eq (word_in text) (codes "nth-child") ≡ true → nth_at (past_word text) ≡ Some (simple, rest) → PlainIs (58 ∷ text) simple rest
    with_argument e s =
        let n = nth_sound (past_word text) simple rest s in
        nth n.0 n.1 n.2 (subst (λ w. PseudoIs (58 ∷ text) w (40 ∷ n.0)) (same_word (word_in text) (codes "nth-child") e) (subst (λ r. PseudoIs (58 ∷ text) (word_in text) r) n.3 (pseudo_sound text))) n.4 n.5

    without : bytes_eq (word_in text) (codes "nth-child") ≡ false → ◌≡◌ {A = Option (Simple × List ℕ)} (word_simple (word_in text) >>= λ s. Some (s, past_word text)) (Some (simple, rest)) → PlainIs (58 ∷ text) simple rest
    without e s =
        let b = bind_ok (word_simple (word_in text)) (λ v. Some (v, past_word text)) (simple, rest) s in
        let p = some_pair_parts b.0 simple (past_word text) rest b.2 in
        alone (word_in text) (subst (λ r. PseudoIs (58 ∷ text) (word_in text) r) p.1 (pseudo_sound text)) (word_simple_sound (word_in text) simple (b.1 ∙ ap Some p.0))

-- ---- a simple

tail_of : (c : ℕ) (a b : List ℕ) → (c ∷ a) ≡ (c ∷ b) → a ≡ b
tail_of c a b e = cc

pub plain_finds : (text : List ℕ) (simple : Simple) (rest : List ℕ) → PlainIs text simple rest → plain_at text ≡ Some (simple, rest)
unfolding plain_at
plain_finds text simple rest (id start value e i s) = ap plain_at e ∙ named_finds Id start value rest i ∙ ap (λ x. Some (x, rest)) (sym s)
plain_finds text simple rest (class start value e i s) = ap plain_at e ∙ named_finds Class start value rest i ∙ ap (λ x. Some (x, rest)) (sym s)
plain_finds text simple rest (has inside start name end e w i v s) = ap plain_at e ∙ has_finds inside start name end rest w i v ∙ ap (λ x. Some (x, rest)) (sym s)
plain_finds text simple rest (attribute name test value h s) = ap plain_at h.text_is ∙ attribute_finds text name test value rest h ∙ ap (λ x. Some (x, rest)) (sym s)
plain_finds text simple rest (alone word p w) = ap plain_at p.text_is ∙ pseudo_word_finds p.written word rest simple p.word_is p.whole w
plain_finds text simple rest (nth inside a b p h s) = ap plain_at p.text_is ∙ pseudo_nth_finds p.written inside a b rest p.word_is h ∙ ap (λ x. Some (x, rest)) (sym s)

pub plain_sound : (text : List ℕ) (simple : Simple) (rest : List ℕ) → plain_at text ≡ Some (simple, rest) → PlainIs text simple rest
unfolding plain_at
plain_sound [] simple rest h = absurd (none-some (simple, rest) h)
plain_sound (c ∷ text) simple rest h =
    either _ (c == 35) (named_at Id text) _ (simple, rest) (λ e s. let n = named_sound Id text simple rest s in id text n.0 (at 35 e) n.1 n.2)
    (λ e. either _ (c == 46) (named_at Class text) _ (simple, rest) (λ e s. let n = named_sound Class text simple rest s in class text n.0 (at 46 e) n.1 n.2)
    (λ e. either _ (c == 91) (bracket_at text) _ (simple, rest) (λ e s. subst (λ t. PlainIs t simple rest) (sym (at 91 e)) (bracket_sound text simple rest s))
    (λ e. either _ (c == 58) (pseudo_at text) None (simple, rest) (λ e s. subst (λ t. PlainIs t simple rest) (sym (at 58 e)) (pseudo_is_sound text simple rest s))
    (λ e s. absurd (none-some (simple, rest) s))))) h
  where
    at : (d : ℕ) → (c == d) ≡ true → (c ∷ text) ≡ (d ∷ text)
    at d e = ap (λ x. x ∷ text) (eqb-true c d e)
