-- The one white space behind hex digits, and the line break that a backslash takes away.
use Rattle.std.proofs.Common.{◌≡◌, ℕ, true, false, cond, not, List, [], ◌∷◌, ◌++◌, ap, refl, ◌∙◌, ◌⊎◌, inl, inr}
use Rattle.std.specs.Prelude.{◌&&◌, ◌==◌}
use Rattle.std.proofs.lemmas.Bool.{and_parts, not-true, eqb-true}
use Rattle.selectors.specs.Characters.{begins, is_white, is_break}
use Rattle.selectors.specs.Escapes.{takes_white, is_end}
use Rattle.selectors.specs.Reading.{after_feed, after_one, after_blank}
use Rattle.selectors.proofs.Fronts.{split}

-- ---- CR LF as one

-- what a text splits into
pub record OneIs (c : ℕ) (text after : List ℕ) : Type 0 where
  pub more : List ℕ
  pub whole : text ≡ more ++ after
  -- nothing more, or LF behind CR
  pub fits : (more ≡ []) × (((c == 13) && begins (λ d. d == 10) after) ≡ false) ⊎ (more ≡ 10 ∷ []) × (c ≡ 13)

feed_is : (c : ℕ) (text : List ℕ) → (c == 13) ≡ true → OneIs c text (after_feed text)
feed_is c [] is = record { more = []; whole = refl; fits = inl (refl, rw is refl) }
feed_is c (d ∷ text) is = split (d == 10) (λ b. OneIs c (d ∷ text) (cond b text (d ∷ text)))
    (λ e. record { more = 10 ∷ []; whole = ap (λ x. x ∷ text) (eqb-true d 10 e); fits = inr (refl, eqb-true c 13 is) })
    (λ e. record { more = []; whole = refl; fits = inl (refl, rw (is, e) refl) })

pub one_is : (c : ℕ) (text : List ℕ) → OneIs c text (after_one c text)
one_is c text = split (c == 13) (λ b. OneIs c text (cond b (after_feed text) text)) (λ e. feed_is c text e) (λ e. record { more = []; whole = refl; fits = inl (refl, rw e refl) })

-- a line break alone
pub one_alone : (c : ℕ) (after : List ℕ) → ((c == 13) && begins (λ d. d == 10) after) ≡ false → after_one c after ≡ after
one_alone c [] apart = split (c == 13) (λ b. cond b (after_feed []) [] ≡ []) (λ _. refl) (λ _. refl)
one_alone c (d ∷ after) apart = split (c == 13) (λ b. (b && (d == 10)) ≡ false → cond b (cond (d == 10) after (d ∷ after)) (d ∷ after) ≡ d ∷ after) (λ _ h. rw h refl) (λ _ _. refl) apart

-- CR LF
pub one_pair : (c d : ℕ) (after : List ℕ) → (c == 13) ≡ true → (d == 10) ≡ true → after_one c (d ∷ after) ≡ after
one_pair c d after first second = rw (first, second) refl

-- ---- one white space

pub record BlankIs (text after : List ℕ) : Type 0 where
  pub white : List ℕ
  pub whole : text ≡ white ++ after
  pub takes : takes_white white after ≡ true

blank_of_one : (c : ℕ) (text after : List ℕ) → is_white c ≡ true → OneIs c text after → BlankIs (c ∷ text) after
blank_of_one c text after is one = elim one.fits as (λ _. BlankIs (c ∷ text) after) [
  | inl h ↦ record { white = c ∷ []; whole = ap (λ ys. c ∷ ys) (one.whole ∙ ap (λ m. m ++ after) h.0); takes = rw (is, h.1) refl }
  | inr h ↦ record { white = c ∷ 10 ∷ []; whole = ap (λ ys. c ∷ ys) (one.whole ∙ ap (λ m. m ++ after) h.0); takes = rw h.1 refl }
]

pub blank_is : (text : List ℕ) → BlankIs text (after_blank text)
blank_is [] = record { white = []; whole = refl; takes = refl }
blank_is (c ∷ text) = split (is_white c) (λ b. BlankIs (c ∷ text) (cond b (after_one c text) (c ∷ text)))
    (λ e. blank_of_one c text (after_one c text) e (one_is c text)) (λ e. record { white = []; whole = refl; takes = rw e refl })

white_return : (c : ℕ) → (c == 13) ≡ true → is_white c ≡ true
white_return c is = rw (eqb-true c 13 is) refl

pub blank_takes : (white after : List ℕ) → takes_white white after ≡ true → after_blank (white ++ after) ≡ after
blank_takes [] [] takes = refl
blank_takes [] (c ∷ after) takes = rw (not-true (is_white c) takes) refl
blank_takes (c ∷ []) after takes = let p : (is_white c ≡ true) × (not ((c == 13) && begins (λ d. d == 10) after) ≡ true) = and_parts _ _ takes in
    rw p.0 (one_alone c after (not-true _ p.1))
blank_takes (c ∷ d ∷ []) after takes = let p : ((c == 13) ≡ true) × ((d == 10) ≡ true) = and_parts _ _ takes in
    rw (white_return c p.0) (one_pair c d after p.0 p.1)
blank_takes (c ∷ d ∷ e ∷ more) after takes = cc

-- ---- a line break behind a backslash

pub record EndIs (text after : List ℕ) : Type 0 where
  pub end : List ℕ
  pub whole : text ≡ end ++ after
  pub is : is_end end after ≡ true

pub end_is : (c : ℕ) (text : List ℕ) → is_break c ≡ true → EndIs (c ∷ text) (after_one c text)
end_is c text breaks = let one : OneIs c text (after_one c text) = one_is c text in elim one.fits as (λ _. EndIs (c ∷ text) (after_one c text)) [
  | inl h ↦ record { end = c ∷ []; whole = ap (λ ys. c ∷ ys) (one.whole ∙ ap (λ m. m ++ after_one c text) h.0); is = rw (breaks, h.1) refl }
  | inr h ↦ record { end = c ∷ 10 ∷ []; whole = ap (λ ys. c ∷ ys) (one.whole ∙ ap (λ m. m ++ after_one c text) h.0); is = rw h.1 refl }
]

break_return : (c : ℕ) → (c == 13) ≡ true → is_break c ≡ true
break_return c is = rw (eqb-true c 13 is) refl

-- it begins with a line break, behind which the text goes on
pub record Broken (text after : List ℕ) : Type 0 where
  pub first : ℕ
  pub more : List ℕ
  pub whole : text ≡ first ∷ more
  pub breaks : is_break first ≡ true
  pub goes_on : after_one first more ≡ after

pub end_takes : (end after : List ℕ) → is_end end after ≡ true → Broken (end ++ after) after
end_takes [] after is = cc
end_takes (c ∷ []) after is = let p : (is_break c ≡ true) × (not ((c == 13) && begins (λ d. d == 10) after) ≡ true) = and_parts _ _ is in
    record { first = c; more = after; whole = refl; breaks = p.0; goes_on = one_alone c after (not-true _ p.1) }
end_takes (c ∷ d ∷ []) after is = let p : ((c == 13) ≡ true) × ((d == 10) ≡ true) = and_parts _ _ is in
    record { first = c; more = d ∷ after; whole = refl; breaks = break_return c p.0; goes_on = one_pair c d after p.0 p.1 }
end_takes (c ∷ d ∷ e ∷ more) after is = cc
