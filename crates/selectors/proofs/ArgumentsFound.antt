-- What is read of an argument of nth-child stands there.
use Rattle.std.proofs.Common.{◌≡◌, ℕ, ◌≤◌, true, cond, List, [], ◌∷◌, ◌++◌, Option, Some, None, length, sym, ap, subst, refl, ◌∙◌, arith, append_assoc}
use Rattle.std.specs.Prelude.{◌==◌, ℤ, pos, codes}
use Rattle.std.specs.List.{list_all}
use Rattle.std.specs.Char.{is_ascii_digit}
use Rattle.std.proofs.lemmas.List.Folds.{list_all-append}
use Rattle.std.proofs.lemmas.Bool.{and_from, eqb-true}
use Rattle.selectors.specs.Characters.{is_white}
use Rattle.selectors.specs.Reading.{front, behind, after_white}
use Rattle.selectors.specs.declared.steps.Sign.{Sign}
use Rattle.selectors.specs.declared.steps.Sign.TheVariants.{NoSign, Plus, Minus}
use Rattle.selectors.specs.Steps.{sign_text, signed, IsNumber, number, factor, IsFactor, IsWhite, IsWord, StepIs, even, odd, one, alone, both, ArgumentIs}
use Rattle.selectors.specs.ReadingSteps.{word_at, ends_at, added_at, second_at, factor_of, behind_digits, unsigned_at, signed_at, or_odd, or_even, argument_at}
use Rattle.selectors.proofs.Fronts.{split, front_whole, front_all, front_few}
use Rattle.selectors.proofs.EscapeLemmas.{none_some}
use Rattle.selectors.proofs.White.{WhiteIs, splits_white}
use Rattle.selectors.proofs.ArgumentParts.{WordFound, word_found, EndsIs, Found, ends_found, some_digits, any_digits, factor_is}

-- ---- b, from what is read

pub record AddedIs (sign : Sign) (text : List ℕ) (b : ℤ) (rest : List ℕ) : Type 0 where
  pub digits : List ℕ
  pub after : List ℕ
  pub is : IsNumber digits
  pub white : IsWhite after
  pub b_is : signed sign (number digits) ≡ b
  pub whole : text ≡ digits ++ (after ++ 41 ∷ rest)

added_found : (a : ℤ) (sign : Sign) (text : List ℕ) (c b : ℤ) (rest : List ℕ) → added_at a sign text ≡ Some ((c, b), rest) → (a ≡ c) × AddedIs sign text b rest
added_found a sign text c b rest found = split (length (front is_ascii_digit 9 text) == 0)
    (λ t. (length (front is_ascii_digit 9 text) == 0) ≡ t → cond {A = Option ((ℤ × ℤ) × List ℕ)} t None (ends_at a (signed sign (number (front is_ascii_digit 9 text))) (behind is_ascii_digit 9 text)) ≡ Some ((c, b), rest) → (a ≡ c) × AddedIs sign text b rest)
    (λ _ _ bad. absurd (none_some _ bad))
    (λ _ some good. let f : Found a (signed sign (number (front is_ascii_digit 9 text))) c b (EndsIs (behind is_ascii_digit 9 text) rest) = ends_found _ _ _ _ _ _ good in (
      f.first,
      record {
        digits = front is_ascii_digit 9 text;
        after = f.is.after;
        is = some_digits _ some (front_all is_ascii_digit 9 text) (front_few is_ascii_digit 9 text);
        white = f.is.white;
        b_is = f.second;
        whole = front_whole is_ascii_digit 9 text ∙ ap (λ t. front is_ascii_digit 9 text ++ t) f.is.whole;
      },
    )) refl found

pub data SecondIs (text : List ℕ) (b : ℤ) (rest : List ℕ) : Type 0 where
  of_end : (after : List ℕ) → IsWhite after → text ≡ after ++ 41 ∷ rest → pos 0 ≡ b → SecondIs text b rest
  of_sum : (left : List ℕ) (other : Sign) (right more after : List ℕ) → IsWhite left → 1 ≤ length (sign_text other) → IsWhite right → IsNumber more → IsWhite after → signed other (number more) ≡ b
      → text ≡ left ++ (sign_text other ++ (right ++ (more ++ (after ++ 41 ∷ rest)))) → SecondIs text b rest

sum_found : (a : ℤ) (other : Sign) (left text : List ℕ) (c b : ℤ) (rest : List ℕ) → IsWhite left → 1 ≤ length (sign_text other) → added_at a other (after_white text) ≡ Some ((c, b), rest) → (a ≡ c) × SecondIs (left ++ (sign_text other ++ text)) b rest
sum_found a other left text c b rest white some found =
    let f : (a ≡ c) × AddedIs other (after_white text) b rest = added_found a other (after_white text) c b rest found in
    let w : WhiteIs text (after_white text) = splits_white text in
    (f.0, of_sum left other w.white f.1.digits f.1.after white some w.is f.1.is f.1.white f.1.b_is (ap (λ t. left ++ (sign_text other ++ t)) (w.whole ∙ ap (λ t. w.white ++ t) f.1.whole)))

white_both : (left right : List ℕ) → IsWhite left → IsWhite right → IsWhite (left ++ right)
white_both left right l r = list_all-append is_white left right ∙ and_from _ _ l r

behind_white : (a : ℤ) (left text : List ℕ) (c b : ℤ) (rest : List ℕ) → IsWhite left → second_at a text ≡ Some ((c, b), rest) → (a ≡ c) × SecondIs (left ++ text) b rest
behind_white a left [] c b rest white found = absurd (none_some _ found)
behind_white a left (d ∷ text) c b rest white found = split (d == 43)
    (λ t. (d == 43) ≡ t → cond t (added_at a Plus (after_white text)) (cond (d == 45) (added_at a Minus (after_white text)) (ends_at a (pos 0) (d ∷ text))) ≡ Some ((c, b), rest) → (a ≡ c) × SecondIs (left ++ d ∷ text) b rest)
    (λ _ e same. subst (λ x. (a ≡ c) × SecondIs (left ++ x ∷ text) b rest) (sym (eqb-true d 43 e)) (sum_found a Plus left text c b rest white (omega arith) same))
    (λ _ _ others. split (d == 45)
    (λ t. (d == 45) ≡ t → cond t (added_at a Minus (after_white text)) (ends_at a (pos 0) (d ∷ text)) ≡ Some ((c, b), rest) → (a ≡ c) × SecondIs (left ++ d ∷ text) b rest)
    (λ _ e same. subst (λ x. (a ≡ c) × SecondIs (left ++ x ∷ text) b rest) (sym (eqb-true d 45 e)) (sum_found a Minus left text c b rest white (omega arith) same))
    (λ _ _ same. let f : Found a (pos 0) c b (EndsIs (d ∷ text) rest) = ends_found a (pos 0) c b (d ∷ text) rest same in
    (f.first, of_end (left ++ f.is.after) (white_both left f.is.after white f.is.white) (ap (λ t. left ++ t) f.is.whole ∙ sym (append_assoc left f.is.after (41 ∷ rest))) f.second)) refl others) refl found

second_found : (a : ℤ) (text : List ℕ) (c b : ℤ) (rest : List ℕ) → second_at a (after_white text) ≡ Some ((c, b), rest) → (a ≡ c) × SecondIs text b rest
second_found a text c b rest found = let w : WhiteIs text (after_white text) = splits_white text in
    subst (λ t. (a ≡ c) × SecondIs t b rest) (sym w.whole) (behind_white a w.white (after_white text) c b rest w.is found)

-- ---- a and b, from what is read

pub record StepFound (text : List ℕ) (a b : ℤ) (rest : List ℕ) : Type 0 where
  pub step : List ℕ
  pub after : List ℕ
  pub is : StepIs step a b
  pub white : IsWhite after
  pub whole : text ≡ step ++ (after ++ 41 ∷ rest)

found_one : (sign : Sign) (digits text : List ℕ) (a b : ℤ) (rest : List ℕ) → IsNumber digits → Found (pos 0) (signed sign (number digits)) a b (EndsIs text rest) → StepFound (sign_text sign ++ (digits ++ text)) a b rest
found_one sign digits text a b rest is f = subst (λ x. StepFound (sign_text sign ++ (digits ++ text)) x b rest) f.first (subst (λ y. StepFound (sign_text sign ++ (digits ++ text)) (pos 0) y rest) f.second
    (record {
      step = sign_text sign ++ digits;
      after = f.is.after;
      is = one sign digits is;
      white = f.is.white;
      whole = ap (λ t. sign_text sign ++ (digits ++ t)) f.is.whole ∙ sym (append_assoc (sign_text sign) digits (f.is.after ++ 41 ∷ rest));
    }))

found_n : (sign : Sign) (digits n text : List ℕ) (a b : ℤ) (rest : List ℕ) → IsFactor digits → IsWord (codes "n") n → signed sign (factor digits) ≡ a → SecondIs text b rest → StepFound (sign_text sign ++ (digits ++ (n ++ text))) a b rest
found_n sign digits n text a b rest is word first (of_end after white whole second) =
    subst (λ x. StepFound (sign_text sign ++ (digits ++ (n ++ text))) x b rest) first (subst (λ y. StepFound (sign_text sign ++ (digits ++ (n ++ text))) (signed sign (factor digits)) y rest) second
    (record {
      step = sign_text sign ++ digits ++ n;
      after = after;
      is = alone sign digits n is word;
      white = white;
      whole = ap (λ t. sign_text sign ++ (digits ++ (n ++ t))) whole ∙ sym (simp append_assoc refl);
    }))
found_n sign digits n text a b rest is word first (of_sum left other right more after white_left some white_right number_is white second whole) =
    subst (λ x. StepFound (sign_text sign ++ (digits ++ (n ++ text))) x b rest) first (subst (λ y. StepFound (sign_text sign ++ (digits ++ (n ++ text))) (signed sign (factor digits)) y rest) second
    (record {
      step = sign_text sign ++ digits ++ n ++ left ++ sign_text other ++ right ++ more;
      after = after;
      is = both sign digits n left other right more is word white_left some white_right number_is;
      white = white;
      whole = ap (λ t. sign_text sign ++ (digits ++ (n ++ t))) whole ∙ regroup (sign_text sign) digits n left (sign_text other) right more (after ++ 41 ∷ rest);
    }))
  where
    regroup : (a b c d e f g h : List ℕ) → a ++ (b ++ (c ++ (d ++ (e ++ (f ++ (g ++ h)))))) ≡ (a ++ b ++ c ++ d ++ e ++ f ++ g) ++ h
    regroup a b c d e f g h = sym (simp append_assoc refl)

behind_found : (sign : Sign) (digits text : List ℕ) (word : Option (List ℕ)) (a b : ℤ) (rest : List ℕ) → list_all is_ascii_digit digits ≡ true → length digits ≤ 9 → word_at (codes "n") text ≡ word
    → behind_digits sign digits text word ≡ Some ((a, b), rest) → StepFound (sign_text sign ++ (digits ++ text)) a b rest
behind_found sign digits text (Some more) a b rest each few is found =
    let w : WordFound (codes "n") text more = word_found (codes "n") text more is in
    let f : (signed sign (factor_of digits) ≡ a) × SecondIs more b rest = second_found (signed sign (factor_of digits)) more a b rest found in
    subst (λ t. StepFound (sign_text sign ++ (digits ++ t)) a b rest) (sym w.whole)
    (found_n sign digits w.written more a b rest (any_digits digits each few) w.is (ap (signed sign) (sym (factor_is digits)) ∙ f.0) f.1)
behind_found sign digits text None a b rest each few is found = split (length digits == 0)
    (λ t. (length digits == 0) ≡ t → cond {A = Option ((ℤ × ℤ) × List ℕ)} t None (ends_at (pos 0) (signed sign (number digits)) text) ≡ Some ((a, b), rest) → StepFound (sign_text sign ++ (digits ++ text)) a b rest)
    (λ _ _ bad. absurd (none_some _ bad))
    (λ _ some good. found_one sign digits text a b rest (some_digits digits some each few) (ends_found (pos 0) (signed sign (number digits)) a b text rest good)) refl found

unsigned_found : (sign : Sign) (text : List ℕ) (a b : ℤ) (rest : List ℕ) → unsigned_at sign text ≡ Some ((a, b), rest) → StepFound (sign_text sign ++ text) a b rest
unsigned_found sign text a b rest found = subst (λ t. StepFound (sign_text sign ++ t) a b rest) (sym (front_whole is_ascii_digit 9 text))
    (behind_found sign (front is_ascii_digit 9 text) (behind is_ascii_digit 9 text) (word_at (codes "n") (behind is_ascii_digit 9 text)) a b rest (front_all is_ascii_digit 9 text) (front_few is_ascii_digit 9 text) refl found)

signed_found : (text : List ℕ) (a b : ℤ) (rest : List ℕ) → signed_at text ≡ Some ((a, b), rest) → StepFound text a b rest
signed_found [] a b rest found = absurd (none_some _ found)
signed_found (c ∷ text) a b rest found = split (c == 43)
    (λ t. (c == 43) ≡ t → cond t (unsigned_at Plus text) (cond (c == 45) (unsigned_at Minus text) (unsigned_at NoSign (c ∷ text))) ≡ Some ((a, b), rest) → StepFound (c ∷ text) a b rest)
    (λ _ e same. subst (λ x. StepFound (x ∷ text) a b rest) (sym (eqb-true c 43 e)) (unsigned_found Plus text a b rest same))
    (λ _ _ others. split (c == 45) (λ t. (c == 45) ≡ t → cond t (unsigned_at Minus text) (unsigned_at NoSign (c ∷ text)) ≡ Some ((a, b), rest) → StepFound (c ∷ text) a b rest)
    (λ _ e same. subst (λ x. StepFound (x ∷ text) a b rest) (sym (eqb-true c 45 e)) (unsigned_found Minus text a b rest same))
    (λ _ _ same. unsigned_found NoSign (c ∷ text) a b rest same) refl others) refl found

word_step : (word text more : List ℕ) (x y a b : ℤ) (rest : List ℕ) → ((written : List ℕ) → IsWord word written → StepIs written x y) → word_at word text ≡ Some more → ends_at x y more ≡ Some ((a, b), rest) → StepFound text a b rest
word_step word text more x y a b rest spelled is found =
    let w : WordFound word text more = word_found word text more is in
    let f : Found x y a b (EndsIs more rest) = ends_found x y a b more rest found in
    subst (λ d. StepFound text d b rest) f.first (subst (λ d. StepFound text x d rest) f.second
    (record { step = w.written; after = f.is.after; is = spelled w.written w.is; white = f.is.white; whole = w.whole ∙ ap (λ t. w.written ++ t) f.is.whole }))

odd_found : (text : List ℕ) (word : Option (List ℕ)) (a b : ℤ) (rest : List ℕ) → word_at (codes "odd") text ≡ word → or_odd text word ≡ Some ((a, b), rest) → StepFound text a b rest
odd_found text (Some more) a b rest is found = word_step (codes "odd") text more (pos 2) (pos 1) a b rest odd is found
odd_found text None a b rest is found = signed_found text a b rest found

even_found : (text : List ℕ) (word : Option (List ℕ)) (a b : ℤ) (rest : List ℕ) → word_at (codes "even") text ≡ word → or_even text word ≡ Some ((a, b), rest) → StepFound text a b rest
even_found text (Some more) a b rest is found = word_step (codes "even") text more (pos 2) (pos 0) a b rest even is found
even_found text None a b rest is found = odd_found text (word_at (codes "odd") text) a b rest refl found

pub argument_at_is : (text : List ℕ) (a b : ℤ) (rest : List ℕ) → argument_at text ≡ Some ((a, b), rest) → ArgumentIs text a b rest
unfolding argument_at
argument_at_is text a b rest found =
    let w : WhiteIs text (after_white text) = splits_white text in
    let f : StepFound (after_white text) a b rest = even_found (after_white text) (word_at (codes "even") (after_white text)) a b rest refl found in
    record { before = w.white; step = f.step; after = f.after; white_before = w.is; is = f.is; white_after = f.white; text_is = w.whole ∙ ap (λ t. w.white ++ t) f.whole ∙ sym (simp append_assoc refl) }
