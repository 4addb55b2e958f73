-- Reading an escape answers exactly what its pieces say.
use Rattle.std.proofs.Common.{subst, ◌≡◌, ℕ, ◌≤◌, true, false, cond, not, List, [], ◌∷◌, ◌++◌, Option, Some, None, length, sym, ap, refl, ◌∙◌, arith, ◌⊎◌, inl, inr, append_assoc}
use Rattle.std.specs.Prelude.{◌&&◌, ◌||◌, ◌==◌, nat_le}
use Rattle.std.specs.List.{list_all}
use Rattle.std.specs.Char.{is_ascii_hexdigit}
use Rattle.std.specs.Str.Parse.{digits_value}
use Rattle.std.proofs.lemmas.Bool.{and_parts, or_cases, not-true, not-false, eqb-true, eq-eqb, and_from, or_left, or_right, le-leb, leb-true}
use Rattle.selectors.specs.Characters.{begins, is_break}
use Rattle.selectors.specs.Escapes.{takes_digits, takes_white, is_hex, is_quoted, scalar_of}
use Rattle.selectors.specs.Reading.{front, behind, after_blank, escape_at}
use Rattle.selectors.proofs.Fronts.{split, front_whole, front_all, front_few, front_stops, front_is}
use Rattle.selectors.proofs.Blanks.{BlankIs, blank_is, blank_takes}

pub data EscapeIs (text : List ℕ) (c : ℕ) (rest : List ℕ) : Type 0 where
  of_hex : (digits white : List ℕ) → is_hex digits white rest ≡ true → text ≡ (digits ++ white) ++ rest → scalar_of (digits_value 16 digits) ≡ c → EscapeIs text c rest
  of_quoted : is_quoted c ≡ true → text ≡ c ∷ rest → EscapeIs text c rest

first_or : {A B : Type 0} → A → Option (A × B) → A
first_or other None = other
first_or other (Some x) = x.0

second_or : {A B : Type 0} → B → Option (A × B) → B
second_or other None = other
second_or other (Some x) = x.1

pub none_some : {A : Type 0} → (x : A) → ◌≡◌ {A = Option A} None (Some x) → ⊥
none_some x same = cc

pub some_pair : {A B : Type 0} → (a c : A) (b d : B) → ◌≡◌ {A = Option (A × B)} (Some (a, b)) (Some (c, d)) → (a ≡ c) × (b ≡ d)
unfolding first_or second_or
some_pair a c b d same = (ap (first_or a) same, ap (second_or b) same)

-- the digits at the front are all there are up to six
digits_fit : (c : ℕ) (text : List ℕ) → is_ascii_hexdigit c ≡ true → takes_digits (front is_ascii_hexdigit 6 (c ∷ text)) (behind is_ascii_hexdigit 6 (c ∷ text)) ≡ true
digits_fit c text is =
    let digits : List ℕ = front is_ascii_hexdigit 6 (c ∷ text) in
    let after : List ℕ = behind is_ascii_hexdigit 6 (c ∷ text) in
    let some : 1 ≤ length (cond (is_ascii_hexdigit c) (c ∷ front is_ascii_hexdigit 5 text) []) = rw is (omega arith) in
    and_from _ _ (and_from _ _ (and_from _ _ (le-leb 1 _ some) (le-leb _ 6 (front_few is_ascii_hexdigit 6 (c ∷ text)))) (front_all is_ascii_hexdigit 6 (c ∷ text)))
    (elim (front_stops is_ascii_hexdigit 6 (c ∷ text)) as (λ _. ((length digits == 6) || not (begins is_ascii_hexdigit after)) ≡ true) [
      | inl h ↦ or_left _ _ (eq-eqb _ _ h)
      | inr h ↦ or_right _ _ (ap not h)
    ])

pub escape_is : (text : List ℕ) (c : ℕ) (rest : List ℕ) → escape_at text ≡ Some (c, rest) → EscapeIs text c rest
escape_is [] c rest found = cc
escape_is (d ∷ text) c rest found = split (is_ascii_hexdigit d)
    (λ b. cond {A = Option (ℕ × List ℕ)} b (Some (scalar_of (digits_value 16 (front is_ascii_hexdigit 6 (d ∷ text))), after_blank (behind is_ascii_hexdigit 6 (d ∷ text)))) (cond (is_break d) None (Some (d, text))) ≡ Some (c, rest) → EscapeIs (d ∷ text) c rest)
    (λ e same. let p : (scalar_of (digits_value 16 (front is_ascii_hexdigit 6 (d ∷ text))) ≡ c) × (after_blank (behind is_ascii_hexdigit 6 (d ∷ text)) ≡ rest) = some_pair _ _ _ _ same in
    let blank : BlankIs (behind is_ascii_hexdigit 6 (d ∷ text)) rest = subst (λ r. BlankIs (behind is_ascii_hexdigit 6 (d ∷ text)) r) p.1 (blank_is (behind is_ascii_hexdigit 6 (d ∷ text))) in
    of_hex (front is_ascii_hexdigit 6 (d ∷ text)) blank.white
    (and_from _ _ (subst (λ a. takes_digits (front is_ascii_hexdigit 6 (d ∷ text)) a ≡ true) blank.whole (digits_fit d text e)) blank.takes)
    (front_whole is_ascii_hexdigit 6 (d ∷ text) ∙ ap (λ a. front is_ascii_hexdigit 6 (d ∷ text) ++ a) blank.whole ∙ sym (append_assoc (front is_ascii_hexdigit 6 (d ∷ text)) blank.white rest)) p.0)
    (λ e same. split (is_break d) (λ b. is_break d ≡ b → cond {A = Option (ℕ × List ℕ)} b None (Some (d, text)) ≡ Some (c, rest) → EscapeIs (d ∷ text) c rest) (λ _ _ bad. absurd (none_some (c, rest) bad))
    (λ _ f good. let p : (d ≡ c) × (text ≡ rest) = some_pair _ _ _ _ good in
    let quoted : is_quoted d ≡ true = rw (e, f) refl in
    of_quoted (subst (λ x. is_quoted x ≡ true) p.0 quoted) (ap (λ x. x ∷ text) p.0 ∙ ap (λ t. c ∷ t) p.1)) refl same) found

pub escape_takes_hex : (digits white after : List ℕ) → is_hex digits white after ≡ true → escape_at ((digits ++ white) ++ after) ≡ Some (scalar_of (digits_value 16 digits), after)
escape_takes_hex [] white after is = cc
escape_takes_hex (d ∷ digits) white after is =
    let p : (takes_digits (d ∷ digits) (white ++ after) ≡ true) × (takes_white white after ≡ true) = and_parts _ _ is in
    let q : ((nat_le 1 (length (d ∷ digits)) && nat_le (length (d ∷ digits)) 6 && list_all is_ascii_hexdigit (d ∷ digits)) ≡ true) × (((length (d ∷ digits) == 6) || not (begins is_ascii_hexdigit (white ++ after))) ≡ true) = and_parts _ _ p.0 in
    let r : ((nat_le 1 (length (d ∷ digits)) && nat_le (length (d ∷ digits)) 6) ≡ true) × (list_all is_ascii_hexdigit (d ∷ digits) ≡ true) = and_parts _ _ q.0 in
    let few : nat_le (length (d ∷ digits)) 6 ≡ true = (and_parts (nat_le 1 (length (d ∷ digits))) _ r.0).1 in
    let stops : (length (d ∷ digits) ≡ 6) ⊎ (begins is_ascii_hexdigit (white ++ after) ≡ false) = elim (or_cases _ _ q.1) [ inl h ↦ inl (eqb-true _ _ h) | inr h ↦ inr (not-true _ h) ] in
    let whole : (d ∷ digits ++ white) ++ after ≡ (d ∷ digits) ++ (white ++ after) = append_assoc (d ∷ digits) white after in
    let s : (front is_ascii_hexdigit 6 ((d ∷ digits) ++ (white ++ after)) ≡ d ∷ digits) × (behind is_ascii_hexdigit 6 ((d ∷ digits) ++ (white ++ after)) ≡ white ++ after) = front_is is_ascii_hexdigit 6 (d ∷ digits) (white ++ after) r.1 (leb-true _ _ few) stops in
    let first : is_ascii_hexdigit d ≡ true = (and_parts _ (list_all is_ascii_hexdigit digits) r.1).0 in
    ap escape_at whole ∙ escape_hex d (digits ++ (white ++ after)) (d ∷ digits) (white ++ after) after first s.0 s.1 (blank_takes white after p.1)
  where
    escape_hex : (c : ℕ) (text digits middle after : List ℕ) → is_ascii_hexdigit c ≡ true → front is_ascii_hexdigit 6 (c ∷ text) ≡ digits → behind is_ascii_hexdigit 6 (c ∷ text) ≡ middle → after_blank middle ≡ after
        → escape_at (c ∷ text) ≡ Some (scalar_of (digits_value 16 digits), after)
    escape_hex c text digits middle after is f b a =
        ap (λ t. cond t (Some (scalar_of (digits_value 16 (front is_ascii_hexdigit 6 (c ∷ text))), after_blank (behind is_ascii_hexdigit 6 (c ∷ text)))) (cond (is_break c) None (Some (c, text)))) is
        ∙ ap (λ ds. Some (scalar_of (digits_value 16 ds), after_blank (behind is_ascii_hexdigit 6 (c ∷ text)))) f
        ∙ ap (λ m. Some (scalar_of (digits_value 16 digits), after_blank m)) b
        ∙ ap (λ m. Some (scalar_of (digits_value 16 digits), m)) a

pub escape_takes_quoted : (c : ℕ) (after : List ℕ) → is_quoted c ≡ true → escape_at (c ∷ after) ≡ Some (c, after)
escape_takes_quoted c after is =
    let p : (not (is_ascii_hexdigit c) ≡ true) × (not (is_break c) ≡ true) = and_parts _ _ is in
    rw (not-true _ p.0, not-true _ p.1) refl

-- ---- where no escape stands

pub break_no_hex : (c : ℕ) → is_break c ≡ true → is_ascii_hexdigit c ≡ false
break_no_hex c is = elim (or_cases _ _ is) [
  | inl h ↦ elim (or_cases _ _ h) [ inl g ↦ rw (eqb-true c 10 g) refl | inr g ↦ rw (eqb-true c 12 g) refl ]
  | inr h ↦ rw (eqb-true c 13 h) refl
]

pub escape_none : (text : List ℕ) → begins (λ d. not (is_break d)) text ≡ false → escape_at text ≡ None
escape_none [] stops = refl
escape_none (c ∷ text) stops = let breaks : is_break c ≡ true = not-false _ stops in rw (break_no_hex c breaks, breaks) refl

pub none_escape : (text : List ℕ) → escape_at text ≡ None → begins (λ d. not (is_break d)) text ≡ false
none_escape [] none = refl
none_escape (c ∷ text) none = split (is_ascii_hexdigit c)
    (λ b. cond {A = Option (ℕ × List ℕ)} b (Some (scalar_of (digits_value 16 (front is_ascii_hexdigit 6 (c ∷ text))), after_blank (behind is_ascii_hexdigit 6 (c ∷ text)))) (cond (is_break c) None (Some (c, text))) ≡ None → not (is_break c) ≡ false)
    (λ _ bad. absurd (none_some _ (sym bad)))
    (λ _ stops. split (is_break c) (λ b. cond {A = Option (ℕ × List ℕ)} b None (Some (c, text)) ≡ None → not b ≡ false) (λ _ _. refl) (λ _ bad. absurd (none_some _ (sym bad))) stops) none
