-- The reading of what stands in brackets answers exactly what the grammar says: a name, or a name, a test and a text.
use Rattle.std.proofs.Common.{◌≡◌, ◌∙◌, ℕ, false, cond, ◌⊎◌, inl, inr, Option, Some, List, [], ◌∷◌, ◌++◌, refl, sym, ap}
use Rattle.std.specs.Prelude.{◌==◌}
use Rattle.std.proofs.lemmas.Bool.{eqb-true}
use Rattle.std.proofs.lemmas.Option.{none-some, same_Some, some_pair_parts}
use Rattle.selectors.specs.Characters.{begins, is_white}
use Rattle.selectors.specs.Names.{IdentifierIs}
use Rattle.selectors.specs.Grammar.{WhiteIs, TextIs, identifier, string, test_text, AttributeIs, PlainIs, has, attribute}
use Rattle.selectors.specs.Reading.{after_white}
use Rattle.selectors.specs.Reading.{identifier_at, string_at, is_quote}
use Rattle.selectors.specs.ReadingSimples.{◌>>=◌, behind_character, marked_test, test_at, text_at, named_at, compared_at, bracket_end_at, bracket_at}
use Rattle.selectors.specs.declared.selector.Simple.{Simple}
use Rattle.selectors.specs.declared.selector.Simple.TheVariants.{Has, Attr}
use Rattle.selectors.specs.declared.selector.Test.{Test}
use Rattle.selectors.specs.declared.selector.Test.TheVariants.{Equal, Word, Dash, Starts, Ends, Holds}
use Rattle.selectors.proofs.Binds.{bind_ok, either, made_of, behind_is}
use Rattle.selectors.proofs.Identifiers.{is_identifier_at, identifier_at_is}
use Rattle.selectors.proofs.StringLemmas.{is_string_at, string_at_is}
use Rattle.selectors.proofs.Starts.{identifier_not_white, identifier_not_quote, text_not_white}
use Rattle.selectors.proofs.Whites.{white_finds, white_sound, white_sound_at}

test_finds : (test : Test) (rest : List ℕ) → test_at (test_text test ++ rest) ≡ Some (test, rest)
test_finds Equal rest = refl
test_finds Word rest = refl
test_finds Dash rest = refl
test_finds Starts rest = refl
test_finds Ends rest = refl
test_finds Holds rest = refl

marked : (c d : ℕ) (this test : Test) (others : Option Test) → test_text this ≡ d ∷ 61 ∷ [] → (others ≡ Some test → test_text test ≡ c ∷ 61 ∷ []) → cond (c == d) (Some this) others ≡ Some test → test_text test ≡ c ∷ 61 ∷ []
marked c d this test others e next = either _ (c == d) (Some this) others test (λ t s. ap test_text (sym (same_Some this test s)) ∙ e ∙ ap (λ x. x ∷ 61 ∷ []) (sym (eqb-true c d t))) (λ t s. next s)

marked_sound : (c : ℕ) (test : Test) → marked_test c ≡ Some test → test_text test ≡ c ∷ 61 ∷ []
marked_sound c test = marked c 126 Word test _ refl (marked c 124 Dash test _ refl (marked c 94 Starts test _ refl (marked c 36 Ends test _ refl (marked c 42 Holds test _ refl (λ h. absurd (none-some test h))))))

marked_test_sound : (c : ℕ) (text : List ℕ) (test : Test) (rest : List ℕ) → ◌≡◌ {A = Option (Test × List ℕ)} (marked_test c >>= λ t. behind_character 61 text >>= λ r. Some (t, r)) (Some (test, rest)) → (c ∷ text) ≡ test_text test ++ rest
marked_test_sound c text test rest h =
    let a = bind_ok (marked_test c) (λ t. behind_character 61 text >>= λ r. Some (t, r)) (test, rest) h in
    let b = bind_ok (behind_character 61 text) (λ r. Some (a.0, r)) (test, rest) a.2 in
    let p = some_pair_parts a.0 test b.0 rest b.2 in
    let t = behind_is 61 text b.0 b.1 in
    let m = marked_sound c a.0 a.1 in
    ap (λ x. c ∷ x) (t ∙ ap (λ x. 61 ∷ x) p.1) ∙ ap (λ x. x ++ rest) (sym m ∙ ap test_text p.0)

test_sound : (text : List ℕ) (test : Test) (rest : List ℕ) → test_at text ≡ Some (test, rest) → text ≡ test_text test ++ rest
test_sound [] test rest h = absurd (none-some (test, rest) h)
test_sound (c ∷ text) test rest h = either _ (c == 61) (Some (Equal, text)) _ (test, rest)
    (λ e s. let p = some_pair_parts Equal test text rest s in ap (λ x. x ∷ text) (eqb-true c 61 e) ∙ ap (λ x. 61 ∷ x) p.1 ∙ ap (λ x. test_text x ++ rest) p.0)
    (λ e s. marked_test_sound c text test rest s) h

text_finds : (text value rest : List ℕ) → TextIs text value rest → text_at text ≡ Some (value, rest)
unfolding text_at
text_finds text value rest (identifier i) = ap (λ b. cond b (string_at text) (identifier_at text)) (identifier_not_quote text value rest i) ∙ is_identifier_at text value rest i
text_finds text value rest (string s) = ap (λ b. cond b (string_at text) (identifier_at text)) (ap (begins is_quote) s.text_is ∙ s.is_quote) ∙ is_string_at text value rest s

text_sound : (text value rest : List ℕ) → text_at text ≡ Some (value, rest) → TextIs text value rest
unfolding text_at
text_sound text value rest h = either _ (begins is_quote text) (string_at text) (identifier_at text) (value, rest) (λ e s. string (string_at_is text value rest s)) (λ e s. identifier (identifier_at_is text value rest s)) h

pub named_finds : (make : List ℕ → Simple) (text value rest : List ℕ) → IdentifierIs text value rest → named_at make text ≡ Some (make value, rest)
unfolding named_at
named_finds make text value rest i = ap (λ o. o >>= λ x. Some (make x.0, x.1)) (is_identifier_at text value rest i)

pub named_sound : (make : List ℕ → Simple) (text : List ℕ) (simple : Simple) (rest : List ℕ) → named_at make text ≡ Some (simple, rest) → (value : List ℕ) × IdentifierIs text value rest × (simple ≡ make value)
unfolding named_at
named_sound make text simple rest h = let m = made_of (identifier_at text) make simple rest h in (m.0, identifier_at_is text m.0 rest m.1, m.2)

-- behind the name: white space, a test, a text and ']'
record ComparedIs (text : List ℕ) (test : Test) (value rest : List ℕ) : Type 0 where
  between : List ℕ
  other : List ℕ
  last : List ℕ
  text_is : text ≡ test_text test ++ between
  behind : WhiteIs between other
  value_is : TextIs other value last
  ends : WhiteIs last (93 ∷ rest)

compared_finds : (name text : List ℕ) (test : Test) (value rest : List ℕ) → ComparedIs text test value rest → compared_at name text ≡ Some (Attr name test value, rest)
unfolding compared_at
compared_finds name text test value rest h =
    ap (λ o. o >>= λ t. text_at (after_white t.1) >>= λ v. behind_character 93 (after_white v.1) >>= λ r. Some (Attr name t.0 v.0, r)) (ap test_at h.text_is ∙ test_finds test h.between)
    ∙ ap (λ o. o >>= λ v. behind_character 93 (after_white v.1) >>= λ r. Some (Attr name test v.0, r)) (ap text_at (white_finds h.between h.other h.behind (text_not_white h.other value h.last h.value_is)) ∙ text_finds h.other value h.last h.value_is)
    ∙ ap (λ o. behind_character 93 o >>= λ r. Some (Attr name test value, r)) (white_finds h.last (93 ∷ rest) h.ends refl)

compared_sound : (name text : List ℕ) (simple : Simple) (rest : List ℕ) → compared_at name text ≡ Some (simple, rest) → (test : Test) × (value : List ℕ) × ComparedIs text test value rest × (simple ≡ Attr name test value)
unfolding compared_at
compared_sound name text simple rest h =
    let a = bind_ok (test_at text) (λ t. text_at (after_white t.1) >>= λ v. behind_character 93 (after_white v.1) >>= λ r. Some (Attr name t.0 v.0, r)) (simple, rest) h in
    let b = bind_ok (text_at (after_white a.0.1)) (λ v. behind_character 93 (after_white v.1) >>= λ r. Some (Attr name a.0.0 v.0, r)) (simple, rest) a.2 in
    let d = bind_ok (behind_character 93 (after_white b.0.1)) (λ r. Some (Attr name a.0.0 b.0.0, r)) (simple, rest) b.2 in
    let p = some_pair_parts (Attr name a.0.0 b.0.0) simple d.0 rest d.2 in (
      a.0.0,
      b.0.0,
      record {
        between = a.0.1;
        other = after_white a.0.1;
        last = b.0.1;
        text_is = test_sound text a.0.0 a.0.1 a.1;
        behind = white_sound a.0.1;
        value_is = text_sound (after_white a.0.1) b.0.0 b.0.1 b.1;
        ends = white_sound_at b.0.1 (93 ∷ rest) (behind_is 93 (after_white b.0.1) d.0 d.1 ∙ ap (λ x. 93 ∷ x) p.1);
      },
      sym p.0,
    )

bracket_end_sound : (name text : List ℕ) (simple : Simple) (rest : List ℕ) → bracket_end_at name text ≡ Some (simple, rest)
    → ((text ≡ 93 ∷ rest) × (simple ≡ Has name)) ⊎ ((test : Test) × (value : List ℕ) × ComparedIs text test value rest × (simple ≡ Attr name test value))
unfolding bracket_end_at
bracket_end_sound name [] simple rest h = absurd (none-some (simple, rest) h)
bracket_end_sound name (c ∷ text) simple rest h = either _ (c == 93) (Some (Has name, text)) (compared_at name (c ∷ text)) (simple, rest)
    (λ e s. let p = some_pair_parts (Has name) simple text rest s in inl (ap (λ x. x ∷ text) (eqb-true c 93 e) ∙ ap (λ x. 93 ∷ x) p.1, sym p.0))
    (λ e s. inr (compared_sound name (c ∷ text) simple rest s)) h

-- behind the name a test never begins as the end does
test_no_end : (name : List ℕ) (test : Test) (between : List ℕ) → bracket_end_at name (test_text test ++ between) ≡ compared_at name (test_text test ++ between)
unfolding bracket_end_at
test_no_end name Equal between = refl
test_no_end name Word between = refl
test_no_end name Dash between = refl
test_no_end name Starts between = refl
test_no_end name Ends between = refl
test_no_end name Holds between = refl

test_not_white : (test : Test) (between : List ℕ) → begins is_white (test_text test ++ between) ≡ false
test_not_white Equal between = refl
test_not_white Word between = refl
test_not_white Dash between = refl
test_not_white Starts between = refl
test_not_white Ends between = refl
test_not_white Holds between = refl

bracket_finds : (inside start name end behind : List ℕ) (simple : Simple) (rest : List ℕ) → WhiteIs inside start → IdentifierIs start name end → WhiteIs end behind → begins is_white behind ≡ false → bracket_end_at name behind ≡ Some (simple, rest) → bracket_at inside ≡ Some (simple, rest)
unfolding bracket_at
bracket_finds inside start name end behind simple rest w i v k h =
    ap (λ o. o >>= λ n. bracket_end_at n.0 (after_white n.1)) (ap identifier_at (white_finds inside start w (identifier_not_white start name end i)) ∙ is_identifier_at start name end i)
    ∙ ap (bracket_end_at name) (white_finds end behind v k) ∙ h

pub has_finds : (inside start name end rest : List ℕ) → WhiteIs inside start → IdentifierIs start name end → WhiteIs end (93 ∷ rest) → bracket_at inside ≡ Some (Has name, rest)
unfolding bracket_end_at
has_finds inside start name end rest w i v = bracket_finds inside start name end (93 ∷ rest) (Has name) rest w i v refl refl

pub attribute_finds : (text name : List ℕ) (test : Test) (value rest : List ℕ) → (h : AttributeIs text name test value rest) → bracket_at h.inside ≡ Some (Attr name test value, rest)
attribute_finds text name test value rest h = bracket_finds h.inside h.start name h.end (test_text test ++ h.between) (Attr name test value) rest h.before h.name_is h.after (test_not_white test h.between)
    (test_no_end name test h.between ∙ compared_finds name (test_text test ++ h.between) test value rest (record { between = h.between; other = h.other; last = h.last; text_is = refl; behind = h.behind; value_is = h.value_is; ends = h.ends }))

pub bracket_sound : (inside : List ℕ) (simple : Simple) (rest : List ℕ) → bracket_at inside ≡ Some (simple, rest) → PlainIs (91 ∷ inside) simple rest
unfolding bracket_at
bracket_sound inside simple rest h = go (bind_ok (identifier_at (after_white inside)) (λ n. bracket_end_at n.0 (after_white n.1)) (simple, rest) h)
  where
    more : (name end : List ℕ) → IdentifierIs (after_white inside) name end → (test : Test) × (value : List ℕ) × ComparedIs (after_white end) test value rest × (simple ≡ Attr name test value) → PlainIs (91 ∷ inside) simple rest
    more name end i p = attribute name p.0 p.1 (record { inside = inside; start = after_white inside; end = end; between = p.2.between; other = p.2.other; last = p.2.last; text_is = refl; before = white_sound inside; name_is = i; after = white_sound_at end _ p.2.text_is; behind = p.2.behind; value_is = p.2.value_is; ends = p.2.ends }) p.3

    go : (n : List ℕ × List ℕ) × (identifier_at (after_white inside) ≡ Some n) × (bracket_end_at n.0 (after_white n.1) ≡ Some (simple, rest)) → PlainIs (91 ∷ inside) simple rest
    go p = let i = identifier_at_is (after_white inside) p.0.0 p.0.1 p.1 in
        elim (bracket_end_sound p.0.0 (after_white p.0.1) simple rest p.2) [ inl q ↦ has inside (after_white inside) p.0.0 p.0.1 refl (white_sound inside) i (white_sound_at p.0.1 (93 ∷ rest) q.0) q.1 | inr q ↦ more p.0.0 p.0.1 i q ]
