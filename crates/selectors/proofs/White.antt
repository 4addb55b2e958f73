-- White space at the front of a text.
use Rattle.std.proofs.Common.{◌≡◌, ℕ, true, false, cond, List, [], ◌∷◌, ◌++◌, ap, refl}
use Rattle.std.specs.List.{list_all}
use Rattle.std.proofs.lemmas.Bool.{and_parts}
use Rattle.selectors.specs.Characters.{begins, is_white}
use Rattle.selectors.specs.Reading.{after_white}
use Rattle.selectors.specs.Steps.{IsWhite}
use Rattle.selectors.proofs.Fronts.{split}

pub record WhiteIs (text after : List ℕ) : Type 0 where
  pub white : List ℕ
  pub is : IsWhite white
  pub whole : text ≡ white ++ after
  pub stops : begins is_white after ≡ false

pub splits_white : (text : List ℕ) → WhiteIs text (after_white text)
splits_white [] = record { white = []; is = refl; whole = refl; stops = refl }
splits_white (c ∷ text) = let rest : WhiteIs text (after_white text) = splits_white text in
    split (is_white c) (λ b. WhiteIs (c ∷ text) (cond b (after_white text) (c ∷ text)))
    (λ e. record { white = c ∷ rest.white; is = rw e rest.is; whole = ap (λ t. c ∷ t) rest.whole; stops = rest.stops })
    (λ e. record { white = []; is = refl; whole = refl; stops = e })

pub skips_white : (white rest : List ℕ) → IsWhite white → begins is_white rest ≡ false → after_white (white ++ rest) ≡ rest
skips_white [] [] is stops = refl
skips_white [] (c ∷ rest) is stops = rw stops refl
skips_white (c ∷ white) rest is stops = let p : (is_white c ≡ true) × (list_all is_white white ≡ true) = and_parts _ _ is in rw p.0 (skips_white white rest p.1 stops)
