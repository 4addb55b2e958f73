-- Words, numbers, white space and the closing bracket of an argument of nth-child.
use Rattle.std.proofs.Common.{◌≡◌, ℕ, suc, ◌+◌, ◌<◌, ◌≤◌, Bool, true, false, cond, List, [], ◌∷◌, ◌++◌, Option, Some, None, length, sym, ap, refl, ◌∙◌, arith, inl, inr, lit<}
use Rattle.std.specs.Prelude.{◌&&◌, ◌||◌, ◌==◌, ℤ, nat_le, nat_lt}
use Rattle.std.specs.Option.{option_map}
use Rattle.std.specs.List.{list_all}
use Rattle.std.specs.Char.{is_ascii_digit, eq_ignore_ascii_case, to_ascii_lowercase}
use Rattle.std.specs.Str.{str_eq_ignore_ascii_case}
use Rattle.std.proofs.lemmas.Bool.{and_parts, or_cases, and_from, eqb-true, ne_eqb, agree_below, agree_below_at, leb-true, false≢true}
use Rattle.selectors.specs.Characters.{begins, is_white}
use Rattle.selectors.specs.Reading.{after_white}
use Rattle.selectors.specs.Steps.{IsNumber, factor, IsFactor, IsWhite, IsWord}
use Rattle.selectors.specs.ReadingSteps.{word_at, closed_at, ends_at, factor_of}
use Rattle.selectors.proofs.Fronts.{split}
use Rattle.selectors.proofs.EscapeLemmas.{some_pair, none_some}
use Rattle.selectors.proofs.White.{WhiteIs, splits_white, skips_white}

-- ---- words

pub record WordFound (word text rest : List ℕ) : Type 0 where
  pub written : List ℕ
  pub is : IsWord word written
  pub whole : text ≡ written ++ rest

pub word_found : (word text rest : List ℕ) → word_at word text ≡ Some rest → WordFound word text rest
word_found [] text rest found = record { written = []; is = refl; whole = cc }
word_found (w ∷ word) [] rest found = absurd (none_some _ found)
word_found (w ∷ word) (c ∷ text) rest found = split (eq_ignore_ascii_case c w)
    (λ b. eq_ignore_ascii_case c w ≡ b → cond {A = Option (List ℕ)} b (word_at word text) None ≡ Some rest → WordFound (w ∷ word) (c ∷ text) rest)
    (λ _ e same. let f : WordFound word text rest = word_found word text rest same in record { written = c ∷ f.written; is = and_from _ _ e f.is; whole = ap (λ t. c ∷ t) f.whole })
    (λ _ _ bad. absurd (none_some _ bad)) refl found

pub word_taken : (word written rest : List ℕ) → IsWord word written → word_at word (written ++ rest) ≡ Some rest
word_taken [] [] rest is = refl
word_taken [] (c ∷ written) rest is = cc
word_taken (w ∷ word) [] rest is = cc
word_taken (w ∷ word) (c ∷ written) rest is = let p : (eq_ignore_ascii_case c w ≡ true) × (str_eq_ignore_ascii_case written word ≡ true) = and_parts _ _ is in rw p.0 (word_taken word written rest p.1)

-- ---- which characters are apart

-- of ASCII characters it is enough to try them all
pub fails : (kind test : ℕ → Bool) → agree_below (λ d. kind d && test d) (λ _. false) 128 ≡ true → (c : ℕ) → c < 128 → kind c ≡ true → test c ≡ false
fails kind test tried c small is = sym (ap (λ b. b && test c) is) ∙ agree_below_at (λ d. kind d && test d) (λ _. false) 128 c tried small

pub digit_below : (c : ℕ) → is_ascii_digit c ≡ true → c < 128
digit_below c is = let p : (nat_le 48 c ≡ true) × (nat_le c 57 ≡ true) = and_parts _ _ is in let h : c ≤ 57 = leb-true c 57 p.1 in omega arith

pub white_below : (c : ℕ) → is_white c ≡ true → c < 128
white_below c is = elim (or_cases _ _ is) [
  | inl h ↦ elim (or_cases _ _ h) [ inl g ↦ at_below 32 g (lit< tt) | inr g ↦ at_below 9 g (lit< tt) ]
  | inr h ↦ elim (or_cases _ _ h) [ inl g ↦ elim (or_cases _ _ g) [ inl f ↦ at_below 10 f (lit< tt) | inr f ↦ at_below 12 f (lit< tt) ] | inr g ↦ at_below 13 g (lit< tt) ]
]
  where
    at_below : (n : ℕ) → (c == n) ≡ true → n < 128 → c < 128
    at_below n same small = let e : c ≡ n = eqb-true c n same in omega arith

pub lower_below : (c k : ℕ) → to_ascii_lowercase c ≡ k → k < 128 → c < 128
lower_below c k is small = split (nat_lt c 65) (λ b. nat_lt c 65 ≡ b → cond b c (cond (nat_lt c 91) (c + 32) c) ≡ k → c < 128) (λ _ _ e. omega arith)
    (λ _ _ rest. split (nat_lt c 91) (λ b. cond b (c + 32) c ≡ k → c < 128) (λ _ e. omega arith) (λ _ e. omega arith) rest) refl is

pub letter_below : (c w : ℕ) → to_ascii_lowercase w < 128 → eq_ignore_ascii_case c w ≡ true → c < 128
letter_below c w small is = lower_below c (to_ascii_lowercase w) (eqb-true _ _ is) small

-- a digit, or an n
abbrev pub is_first : ℕ → Bool
is_first c = is_ascii_digit c || eq_ignore_ascii_case c 110

pub first_below : (c : ℕ) → is_first c ≡ true → c < 128
first_below c is = elim (or_cases _ _ is) [ inl h ↦ digit_below c h | inr h ↦ letter_below c 110 (lit< tt) h ]

-- ---- the end

pub record EndsIs (text rest : List ℕ) : Type 0 where
  pub after : List ℕ
  pub white : IsWhite after
  pub whole : text ≡ after ++ 41 ∷ rest

pub record Found (a b c d : ℤ) (P : Type 0) : Type 0 where
  pub first : a ≡ c
  pub second : b ≡ d
  pub is : P

pub closed_found : (text rest : List ℕ) → closed_at text ≡ Some rest → text ≡ 41 ∷ rest
closed_found [] rest found = absurd (none_some _ found)
closed_found (c ∷ text) rest found = split (c == 41) (λ b. (c == 41) ≡ b → cond {A = Option (List ℕ)} b (Some text) None ≡ Some rest → c ∷ text ≡ 41 ∷ rest)
    (λ _ e same. let t : text ≡ rest = cc in ap (λ d. d ∷ text) (eqb-true c 41 e) ∙ ap (λ r. 41 ∷ r) t) (λ _ _ bad. absurd (none_some _ bad)) refl found

abbrev pub paired : ℤ → ℤ → Option (List ℕ) → Option ((ℤ × ℤ) × List ℕ)
paired a b found = option_map (λ rest. ((a, b), rest)) found

pub paired_found : (a b c d : ℤ) (found : Option (List ℕ)) (rest : List ℕ) → paired a b found ≡ Some ((c, d), rest) → Found a b c d (found ≡ Some rest)
paired_found a b c d None rest is = absurd (none_some _ is)
paired_found a b c d (Some left) rest is =
    let p : ◌≡◌ {A = ℤ × ℤ} (a, b) (c, d) × (left ≡ rest) = some_pair _ _ _ _ is in
    record { first = ap (λ x. x.0) p.0; second = ap (λ x. x.1) p.0; is = ap (λ r. Some r) p.1 }

pub ends_found : (a b c d : ℤ) (text rest : List ℕ) → ends_at a b text ≡ Some ((c, d), rest) → Found a b c d (EndsIs text rest)
ends_found a b c d text rest found =
    let f : Found a b c d (closed_at (after_white text) ≡ Some rest) = paired_found a b c d (closed_at (after_white text)) rest found in
    let w : WhiteIs text (after_white text) = splits_white text in
    record { first = f.first; second = f.second; is = record { after = w.white; white = w.is; whole = w.whole ∙ ap (λ t. w.white ++ t) (closed_found _ rest f.is) } }

pub ends_taken : (a b : ℤ) (after rest : List ℕ) → IsWhite after → ends_at a b (after ++ 41 ∷ rest) ≡ Some ((a, b), rest)
ends_taken a b after rest white = ap (λ t. paired a b (closed_at t)) (skips_white after (41 ∷ rest) white refl)

pub tail_stops : (test : ℕ → Bool) → agree_below (λ d. is_white d && test d) (λ _. false) 128 ≡ true → test 41 ≡ false → (after rest : List ℕ) → IsWhite after → begins test (after ++ 41 ∷ rest) ≡ false
tail_stops test tried closing [] rest white = closing
tail_stops test tried closing (c ∷ after) rest white = let is : is_white c ≡ true = (and_parts _ (list_all is_white after) white).0 in fails is_white test tried c (white_below c is) is

-- ---- numbers

pub suc_not_zero : (n : ℕ) → (suc n == 0) ≡ false
suc_not_zero n = ne_eqb (suc n) 0 (λ e. omega arith)

pub some_digits : (digits : List ℕ) → (length digits == 0) ≡ false → list_all is_ascii_digit digits ≡ true → length digits ≤ 9 → IsNumber digits
some_digits [] some each few = absurd (false≢true (sym some))
some_digits (d ∷ digits) some each few = record { some = omega arith; few = few; each = each }

pub any_digits : (digits : List ℕ) → list_all is_ascii_digit digits ≡ true → length digits ≤ 9 → IsFactor digits
any_digits [] each few = tt
any_digits (d ∷ digits) each few = record { some = omega arith; few = few; each = each }

pub factor_is : (digits : List ℕ) → factor_of digits ≡ factor digits
factor_is [] = refl
factor_is (d ∷ digits) = rw (suc_not_zero (length digits)) refl

pub number_some : (digits : List ℕ) → IsNumber digits → (length digits == 0) ≡ false
number_some [] is = let h : 1 ≤ 0 = is.some in absurd (omega arith)
number_some (d ∷ digits) is = suc_not_zero (length digits)

pub number_starts : (digits tail : List ℕ) → IsNumber digits → begins is_ascii_digit (digits ++ tail) ≡ true
number_starts [] tail is = let h : 1 ≤ 0 = is.some in absurd (omega arith)
number_starts (d ∷ digits) tail is = (and_parts _ (list_all is_ascii_digit digits) is.each).0
