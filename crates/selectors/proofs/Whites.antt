-- White space and words at the front of a text.
use Rattle.std.proofs.Common.{◌≡◌, ◌∙◌, subst, ℕ, ◌≤◌, Bool, true, false, cond, List, [], ◌∷◌, ◌++◌, length, length-append, take, ◌-◌, refl, sym, ap, arith}
use Rattle.std.specs.List.{list_all}
use Rattle.std.proofs.Math.Seq.{take-append_seam}
use Rattle.std.proofs.lemmas.Bool.{and_parts, and_from}
use Rattle.selectors.specs.Characters.{begins, is_white}
use Rattle.selectors.specs.Grammar.{WhiteIs}
use Rattle.selectors.specs.Reading.{after_white}
use Rattle.selectors.specs.ReadingSimples.{passing, past}

pub split_whole : (test : ℕ → Bool) (text : List ℕ) → text ≡ passing test text ++ past test text
split_whole test [] = refl
split_whole test (c ∷ text) = go (test c) (split_whole test text)
  where
    go : (b : Bool) → text ≡ passing test text ++ past test text → (c ∷ text) ≡ (cond b (c ∷ passing test text) [] ++ cond b (past test text) (c ∷ text))
    go true ih = ap (λ t. c ∷ t) ih
    go false ih = refl

pub past_stops : (test : ℕ → Bool) (text : List ℕ) → begins test (past test text) ≡ false
past_stops test [] = refl
past_stops test (c ∷ text) = go (test c) refl (past_stops test text)
  where
    go : (b : Bool) → test c ≡ b → begins test (past test text) ≡ false → begins test (cond b (past test text) (c ∷ text)) ≡ false
    go true e ih = ih
    go false e ih = e

pub passing_passes : (test : ℕ → Bool) (text : List ℕ) → list_all test (passing test text) ≡ true
passing_passes test [] = refl
passing_passes test (c ∷ text) = go (test c) refl (passing_passes test text)
  where
    go : (b : Bool) → test c ≡ b → list_all test (passing test text) ≡ true → list_all test (cond b (c ∷ passing test text) []) ≡ true
    go true e ih = and_from _ _ e ih
    go false e ih = refl

pub past-append : (test : ℕ → Bool) (front rest : List ℕ) → list_all test front ≡ true → begins test rest ≡ false → past test (front ++ rest) ≡ rest
past-append test [] [] h k = refl
past-append test [] (c ∷ rest) h k = ap (λ b. cond b (past test rest) (c ∷ rest)) k
past-append test (c ∷ front) rest h k = let p = and_parts (test c) (list_all test front) h in ap (λ b. cond b (past test (front ++ rest)) (c ∷ (front ++ rest))) p.0 ∙ past-append test front rest p.1 k

pub passing-append : (test : ℕ → Bool) (front rest : List ℕ) → list_all test front ≡ true → begins test rest ≡ false → passing test (front ++ rest) ≡ front
passing-append test [] [] h k = refl
passing-append test [] (c ∷ rest) h k = ap (λ b. cond b (c ∷ passing test rest) []) k
passing-append test (c ∷ front) rest h k = let p = and_parts (test c) (list_all test front) h in ap (λ b. cond b (c ∷ passing test (front ++ rest)) []) p.0 ∙ ap (λ t. c ∷ t) (passing-append test front rest p.1 k)

pub after_white-past : (text : List ℕ) → after_white text ≡ past is_white text
after_white-past [] = refl
after_white-past (c ∷ text) = ap (λ t. cond (is_white c) t (c ∷ text)) (after_white-past text)

-- what stands behind white space, where it begins with none
pub white_finds : (text rest : List ℕ) → WhiteIs text rest → begins is_white rest ≡ false → after_white text ≡ rest
white_finds text rest h k = after_white-past text ∙ ap (past is_white) h.text_is ∙ past-append is_white h.white rest h.each k

pub white_sound : (text : List ℕ) → WhiteIs text (after_white text)
white_sound text = record { white = passing is_white text; each = passing_passes is_white text; text_is = split_whole is_white text ∙ ap (λ t. passing is_white text ++ t) (sym (after_white-past text)) }

pub white_sound_at : (text rest : List ℕ) → after_white text ≡ rest → WhiteIs text rest
white_sound_at text rest e = subst (λ t. WhiteIs text t) e (white_sound text)

pub white_stops : (text : List ℕ) → begins is_white (after_white text) ≡ false
white_stops text = ap (begins is_white) (after_white-past text) ∙ past_stops is_white text

pub white_shrinks : (text rest : List ℕ) → WhiteIs text rest → length rest ≤ length text
white_shrinks text rest h = omega (arith, simp length-append at (ap length h.text_is))

-- what stands in front, by its length
pub passing_take : (test : ℕ → Bool) (text : List ℕ) → take (length text - length (past test text)) text ≡ passing test text
passing_take test text =
    let front = passing test text in
    let whole = split_whole test text in
    let count : length text - length (past test text) ≡ length front = omega (arith, ap length whole, length-append front (past test text)) in
    ap (λ n. take n text) count ∙ ap (take (length front)) whole ∙ take-append_seam front (past test text)

pub past_le : (test : ℕ → Bool) (text : List ℕ) → length (past test text) ≤ length text
past_le test text = omega (arith, ap length (split_whole test text), length-append (passing test text) (past test text))
