-- An argument of nth-child is read, and a text begins with one at most.
use Rattle.std.proofs.Common.{◌≡◌, ℕ, ◌<◌, ◌≤◌, Bool, true, false, cond, List, [], ◌∷◌, ◌++◌, Option, Some, None, length, sym, ap, subst, refl, ◌∙◌, arith, append_assoc, append-nil, ◌⊎◌, inl, inr, lit<}
use Rattle.std.specs.Prelude.{◌&&◌, ◌==◌, ℤ, pos, codes, MatchOption}
use Rattle.std.specs.List.{list_all}
use Rattle.std.specs.Char.{is_ascii_digit, eq_ignore_ascii_case}
use Rattle.std.specs.Str.{str_eq_ignore_ascii_case}
use Rattle.std.proofs.lemmas.Bool.{and_parts, or_left, or_right, agree_below, false≢true}
use Rattle.selectors.specs.Characters.{begins, is_white}
use Rattle.selectors.specs.Reading.{front, behind, after_white}
use Rattle.selectors.specs.declared.steps.Sign.{Sign}
use Rattle.selectors.specs.declared.steps.Sign.TheVariants.{NoSign, Plus, Minus}
use Rattle.selectors.specs.Steps.{sign_text, signed, IsNumber, number, factor, IsFactor, IsWhite, IsWord, StepIs, even, odd, one, alone, both, ArgumentIs}
use Rattle.selectors.specs.ReadingSteps.{word_at, ends_at, added_at, second_at, behind_digits, unsigned_at, or_odd, or_even, step_at, argument_at}
use Rattle.selectors.proofs.Fronts.{front_is}
use Rattle.selectors.proofs.EscapeLemmas.{some_pair, none_some}
use Rattle.selectors.proofs.White.{skips_white}
use Rattle.selectors.proofs.ArgumentParts.{word_taken, fails, digit_below, letter_below, is_first, first_below, ends_taken, tail_stops, factor_is, number_some, number_starts}
pub use Rattle.selectors.proofs.ArgumentsFound.{argument_at_is}

-- ---- what is spelled so is read

regroup_n : (a b c d : List ℕ) → a ++ (b ++ (c ++ d)) ≡ (a ++ b ++ c) ++ d
regroup_n a b c d = sym (simp append_assoc refl)

regroup_text : (a b c d : List ℕ) → a ++ b ++ c ++ d ≡ a ++ (b ++ (c ++ d))
regroup_text a b c d = simp append_assoc refl

regroup_sum : (a b c d e f g h : List ℕ) → a ++ (b ++ (c ++ (d ++ (e ++ (f ++ (g ++ h)))))) ≡ (a ++ b ++ c ++ d ++ e ++ f ++ g) ++ h
regroup_sum a b c d e f g h = sym (simp append_assoc refl)

added_taken : (a : ℤ) (sign : Sign) (more after rest : List ℕ) → IsNumber more → IsWhite after → added_at a sign (more ++ (after ++ 41 ∷ rest)) ≡ Some ((a, signed sign (number more)), rest)
added_taken a sign more after rest is white =
    let f : (front is_ascii_digit 9 (more ++ (after ++ 41 ∷ rest)) ≡ more) × (behind is_ascii_digit 9 (more ++ (after ++ 41 ∷ rest)) ≡ after ++ 41 ∷ rest) =
    front_is is_ascii_digit 9 more (after ++ 41 ∷ rest) is.each is.few (inr (tail_stops is_ascii_digit refl refl after rest white)) in
    ap (λ d. cond (length d == 0) None (ends_at a (signed sign (number d)) (behind is_ascii_digit 9 (more ++ (after ++ 41 ∷ rest))))) f.0
    ∙ ap (λ t. cond t None (ends_at a (signed sign (number more)) (behind is_ascii_digit 9 (more ++ (after ++ 41 ∷ rest))))) (number_some more is)
    ∙ ap (ends_at a (signed sign (number more))) f.1 ∙ ends_taken a (signed sign (number more)) after rest white

begins_fails : (kind test : ℕ → Bool) → agree_below (λ d. kind d && test d) (λ _. false) 128 ≡ true → ((c : ℕ) → kind c ≡ true → c < 128) → (text : List ℕ) → begins kind text ≡ true → begins test text ≡ false
begins_fails kind test tried small [] is = refl
begins_fails kind test tried small (c ∷ text) is = fails kind test tried c (small c is) is

second_end : (a : ℤ) (after rest : List ℕ) → IsWhite after → second_at a (after_white (after ++ 41 ∷ rest)) ≡ Some ((a, pos 0), rest)
second_end a after rest white = ap (second_at a) (skips_white after (41 ∷ rest) white refl)

second_sum : (a : ℤ) (left : List ℕ) (other : Sign) (right more after rest : List ℕ) → IsWhite left → 1 ≤ length (sign_text other) → IsWhite right → IsNumber more → IsWhite after
    → second_at a (after_white (left ++ (sign_text other ++ (right ++ (more ++ (after ++ 41 ∷ rest)))))) ≡ Some ((a, signed other (number more)), rest)
second_sum a left NoSign right more after rest white_left some white_right is white = absurd (omega arith)
second_sum a left Plus right more after rest white_left some white_right is white =
    ap (second_at a) (skips_white left (43 ∷ (right ++ (more ++ (after ++ 41 ∷ rest)))) white_left refl)
    ∙ ap (added_at a Plus) (skips_white right (more ++ (after ++ 41 ∷ rest)) white_right (begins_fails is_ascii_digit is_white refl digit_below (more ++ (after ++ 41 ∷ rest)) (number_starts more (after ++ 41 ∷ rest) is)))
    ∙ added_taken a Plus more after rest is white
second_sum a left Minus right more after rest white_left some white_right is white =
    ap (second_at a) (skips_white left (45 ∷ (right ++ (more ++ (after ++ 41 ∷ rest)))) white_left refl)
    ∙ ap (added_at a Minus) (skips_white right (more ++ (after ++ 41 ∷ rest)) white_right (begins_fails is_ascii_digit is_white refl digit_below (more ++ (after ++ 41 ∷ rest)) (number_starts more (after ++ 41 ∷ rest) is)))
    ∙ added_taken a Minus more after rest is white

-- an n alone
n_starts : (n tail : List ℕ) → IsWord (codes "n") n → begins (λ c. eq_ignore_ascii_case c 110) (n ++ tail) ≡ true
n_starts [] tail is = cc
n_starts (c ∷ n) tail is = (and_parts _ _ is).0

no_word : (text : List ℕ) → begins (λ c. eq_ignore_ascii_case c 110) text ≡ false → word_at (codes "n") text ≡ None
no_word [] stops = refl
no_word (c ∷ text) stops = rw stops refl

unsigned_one : (sign : Sign) (digits after rest : List ℕ) → IsNumber digits → IsWhite after → unsigned_at sign (digits ++ (after ++ 41 ∷ rest)) ≡ Some ((pos 0, signed sign (number digits)), rest)
unsigned_one sign digits after rest is white =
    let f : (front is_ascii_digit 9 (digits ++ (after ++ 41 ∷ rest)) ≡ digits) × (behind is_ascii_digit 9 (digits ++ (after ++ 41 ∷ rest)) ≡ after ++ 41 ∷ rest) =
    front_is is_ascii_digit 9 digits (after ++ 41 ∷ rest) is.each is.few (inr (tail_stops is_ascii_digit refl refl after rest white)) in
    ap (λ d. behind_digits sign d (behind is_ascii_digit 9 (digits ++ (after ++ 41 ∷ rest))) (word_at (codes "n") (behind is_ascii_digit 9 (digits ++ (after ++ 41 ∷ rest))))) f.0
    ∙ ap (λ t. behind_digits sign digits t (word_at (codes "n") t)) f.1
    ∙ ap (behind_digits sign digits (after ++ 41 ∷ rest)) (no_word (after ++ 41 ∷ rest) (tail_stops (λ c. eq_ignore_ascii_case c 110) refl refl after rest white))
    ∙ ap (λ t. cond t None (ends_at (pos 0) (signed sign (number digits)) (after ++ 41 ∷ rest))) (number_some digits is)
    ∙ ends_taken (pos 0) (signed sign (number digits)) after rest white

factor_each : (digits : List ℕ) → IsFactor digits → (list_all is_ascii_digit digits ≡ true) × (length digits ≤ 9)
factor_each [] is = (refl, omega arith)
factor_each (d ∷ digits) is = (is.each, is.few)

unsigned_n : (sign : Sign) (digits n tail : List ℕ) → IsFactor digits → IsWord (codes "n") n → unsigned_at sign (digits ++ (n ++ tail)) ≡ second_at (signed sign (factor digits)) (after_white tail)
unsigned_n sign digits n tail is word =
    let e : (list_all is_ascii_digit digits ≡ true) × (length digits ≤ 9) = factor_each digits is in
    let f : (front is_ascii_digit 9 (digits ++ (n ++ tail)) ≡ digits) × (behind is_ascii_digit 9 (digits ++ (n ++ tail)) ≡ n ++ tail) =
    front_is is_ascii_digit 9 digits (n ++ tail) e.0 e.1 (inr (begins_fails (λ c. eq_ignore_ascii_case c 110) is_ascii_digit refl (λ c h. letter_below c 110 (lit< tt) h) (n ++ tail) (n_starts n tail word))) in
    ap (λ d. behind_digits sign d (behind is_ascii_digit 9 (digits ++ (n ++ tail))) (word_at (codes "n") (behind is_ascii_digit 9 (digits ++ (n ++ tail))))) f.0
    ∙ ap (λ t. behind_digits sign digits t (word_at (codes "n") t)) f.1
    ∙ ap (behind_digits sign digits (n ++ tail)) (word_taken (codes "n") n tail word)
    ∙ ap (λ x. second_at (signed sign x) (after_white tail)) (factor_is digits)

word_starts : (w : ℕ) (word text tail : List ℕ) → IsWord (w ∷ word) text → begins (λ c. eq_ignore_ascii_case c w) (text ++ tail) ≡ true
word_starts w word [] tail is = cc
word_starts w word (c ∷ text) tail is = (and_parts _ (str_eq_ignore_ascii_case text word) is).0

no_even : (text : List ℕ) → begins (λ c. eq_ignore_ascii_case c 101) text ≡ false → word_at (codes "even") text ≡ None
no_even [] stops = refl
no_even (c ∷ text) stops = rw stops refl

-- white space doesn't begin with it, and it reads as a and b
pub record Taken (text : List ℕ) (a b : ℤ) (rest : List ℕ) : Type 0 where
  pub no_white : begins is_white text ≡ false
  pub reads : step_at text ≡ Some ((a, b), rest)

core_taken : (sign : Sign) (body : List ℕ) (a b : ℤ) (rest : List ℕ) → begins is_first body ≡ true → unsigned_at sign body ≡ Some ((a, b), rest) → Taken (sign_text sign ++ body) a b rest
core_taken Plus body a b rest is reads = record { no_white = refl; reads = reads }
core_taken Minus body a b rest is reads = record { no_white = refl; reads = reads }
core_taken NoSign [] a b rest is reads = absurd (false≢true is)
core_taken NoSign (c ∷ text) a b rest is reads = record {
  no_white = fails is_first is_white refl c (first_below c is) is;
  reads = ap (or_even (c ∷ text)) (no_even (c ∷ text) (fails is_first (λ d. eq_ignore_ascii_case d 101) refl c (first_below c is) is))
      ∙ rw (fails is_first (λ d. eq_ignore_ascii_case d 111) refl c (first_below c is) is, fails is_first (λ d. d == 43) refl c (first_below c is) is, fails is_first (λ d. d == 45) refl c (first_below c is) is) reads;
}

first_from : (text : List ℕ) → (begins is_ascii_digit text ≡ true) ⊎ (begins (λ c. eq_ignore_ascii_case c 110) text ≡ true) → begins is_first text ≡ true
first_from [] (inl is) = is
first_from [] (inr is) = is
first_from (c ∷ text) (inl is) = or_left _ _ is
first_from (c ∷ text) (inr is) = or_right _ _ is

factor_starts : (digits n tail : List ℕ) → IsFactor digits → IsWord (codes "n") n → begins is_first (digits ++ (n ++ tail)) ≡ true
factor_starts [] n tail is word = first_from (n ++ tail) (inr (n_starts n tail word))
factor_starts (d ∷ digits) n tail is word = first_from ((d ∷ digits) ++ (n ++ tail)) (inl (number_starts (d ∷ digits) (n ++ tail) is))

pub step_taken : (step : List ℕ) (a b : ℤ) → StepIs step a b → (after rest : List ℕ) → IsWhite after → Taken (step ++ (after ++ 41 ∷ rest)) a b rest
step_taken step a b (even text is) after rest white = record {
  no_white = begins_fails (λ c. eq_ignore_ascii_case c 101) is_white refl (λ c h. letter_below c 101 (lit< tt) h) (text ++ (after ++ 41 ∷ rest)) (word_starts 101 (codes "ven") text (after ++ 41 ∷ rest) is);
  reads = ap (or_even (text ++ (after ++ 41 ∷ rest))) (word_taken (codes "even") text (after ++ 41 ∷ rest) is) ∙ ends_taken (pos 2) (pos 0) after rest white;
}
step_taken step a b (odd text is) after rest white =
    let starts : begins (λ c. eq_ignore_ascii_case c 111) (text ++ (after ++ 41 ∷ rest)) ≡ true = word_starts 111 (codes "dd") text (after ++ 41 ∷ rest) is in
    record {
      no_white = begins_fails (λ c. eq_ignore_ascii_case c 111) is_white refl (λ c h. letter_below c 111 (lit< tt) h) (text ++ (after ++ 41 ∷ rest)) starts;
      reads = ap (or_even (text ++ (after ++ 41 ∷ rest))) (no_even (text ++ (after ++ 41 ∷ rest)) (begins_fails (λ c. eq_ignore_ascii_case c 111) (λ c. eq_ignore_ascii_case c 101) refl (λ c h. letter_below c 111 (lit< tt) h) (text ++ (after ++ 41 ∷ rest)) starts))
          ∙ ap (or_odd (text ++ (after ++ 41 ∷ rest))) (word_taken (codes "odd") text (after ++ 41 ∷ rest) is) ∙ ends_taken (pos 2) (pos 1) after rest white;
    }
step_taken step a b (one sign digits is) after rest white = subst (λ t. Taken t (pos 0) (signed sign (number digits)) rest) (sym (append_assoc (sign_text sign) digits (after ++ 41 ∷ rest)))
    (core_taken sign (digits ++ (after ++ 41 ∷ rest)) (pos 0) (signed sign (number digits)) rest (first_from (digits ++ (after ++ 41 ∷ rest)) (inl (number_starts digits (after ++ 41 ∷ rest) is))) (unsigned_one sign digits after rest is white))
step_taken step a b (alone sign digits n is word) after rest white = subst (λ t. Taken t (signed sign (factor digits)) (pos 0) rest) (regroup_n (sign_text sign) digits n (after ++ 41 ∷ rest))
    (core_taken sign (digits ++ (n ++ (after ++ 41 ∷ rest))) (signed sign (factor digits)) (pos 0) rest (factor_starts digits n (after ++ 41 ∷ rest) is word)
    (unsigned_n sign digits n (after ++ 41 ∷ rest) is word ∙ second_end (signed sign (factor digits)) after rest white))
step_taken step a b (both sign digits n left other right more is word white_left some white_right number_is) after rest white =
    subst (λ t. Taken t (signed sign (factor digits)) (signed other (number more)) rest) (regroup_sum (sign_text sign) digits n left (sign_text other) right more (after ++ 41 ∷ rest))
    (core_taken sign (digits ++ (n ++ (left ++ (sign_text other ++ (right ++ (more ++ (after ++ 41 ∷ rest))))))) (signed sign (factor digits)) (signed other (number more)) rest
    (factor_starts digits n (left ++ (sign_text other ++ (right ++ (more ++ (after ++ 41 ∷ rest))))) is word)
    (unsigned_n sign digits n (left ++ (sign_text other ++ (right ++ (more ++ (after ++ 41 ∷ rest))))) is word ∙ second_sum (signed sign (factor digits)) left other right more after rest white_left some white_right number_is white))

pub is_argument_at : (text : List ℕ) (a b : ℤ) (rest : List ℕ) → ArgumentIs text a b rest → argument_at text ≡ Some ((a, b), rest)
unfolding argument_at
is_argument_at text a b rest is =
    let t : Taken (is.step ++ (is.after ++ 41 ∷ rest)) a b rest = step_taken is.step a b is.is is.after rest is.white_after in
    ap (λ t. step_at (after_white t)) (is.text_is ∙ regroup_text is.before is.step is.after (41 ∷ rest)) ∙ ap step_at (skips_white is.before (is.step ++ (is.after ++ 41 ∷ rest)) is.white_before t.no_white) ∙ t.reads

-- a text begins with one argument at most
pub one_argument : (text : List ℕ) (a b : ℤ) (rest : List ℕ) (c d : ℤ) (left : List ℕ) → ArgumentIs text a b rest → ArgumentIs text c d left → (a ≡ c) × (b ≡ d) × (rest ≡ left)
one_argument text a b rest c d left first second =
    let same : ◌≡◌ {A = Option ((ℤ × ℤ) × List ℕ)} (Some ((a, b), rest)) (Some ((c, d), left)) = sym (is_argument_at text a b rest first) ∙ is_argument_at text c d left second in
    let p : ◌≡◌ {A = ℤ × ℤ} (a, b) (c, d) × (rest ≡ left) = some_pair _ _ _ _ same in
    (ap (λ x. x.0) p.0, ap (λ x. x.1) p.0, p.1)

in_brackets : (text : List ℕ) (a b : ℤ) → StepIs text a b → ArgumentIs (text ++ 41 ∷ []) a b []
in_brackets text a b is = record { before = []; step = text; after = []; white_before = refl; is = is; white_after = refl; text_is = ap (λ t. t ++ 41 ∷ []) (sym (append-nil text)) }

-- a text is one an+b at most
pub one_step : (text : List ℕ) (a b c d : ℤ) → StepIs text a b → StepIs text c d → (a ≡ c) × (b ≡ d)
one_step text a b c d first second =
    let same : (a ≡ c) × (b ≡ d) × ◌≡◌ {A = List ℕ} [] [] = one_argument (text ++ 41 ∷ []) a b [] c d [] (in_brackets text a b first) (in_brackets text c d second) in
    (same.0, same.1)

abbrev pub ReadsArgument : List ℕ → Option ((ℤ × ℤ) × List ℕ) → Type 0
ReadsArgument text read = MatchOption read ((a b : ℤ) (rest : List ℕ) → ArgumentIs text a b rest → ⊥) (λ x. ArgumentIs text x.0.0 x.0.1 x.1)

-- what answers by the function answers by the relation
pub argument_exact : (text : List ℕ) (read : Option ((ℤ × ℤ) × List ℕ)) → read ≡ argument_at text → ReadsArgument text read
argument_exact text None is = λ a b rest found. none_some _ (is ∙ is_argument_at text a b rest found)
argument_exact text (Some x) is = argument_at_is text x.0.0 x.0.1 x.1 (sym is)
