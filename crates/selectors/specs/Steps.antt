-- The texts of an+b (CSS Syntax, "The An+B microsyntax"), ASCII case ignored.
use Rattle.std.specs.Prelude.{◌≡◌, ℕ, ℤ, pos, neg_ℤ, ◌≤◌, true, List, [], ◌∷◌, ◌++◌, length, codes}
use Rattle.std.specs.List.{list_all}
use Rattle.std.specs.Char.{is_ascii_digit}
use Rattle.std.specs.Str.{str_eq_ignore_ascii_case}
use Rattle.std.specs.Str.Parse.{digits_value}
use Rattle.selectors.specs.declared.steps.Sign.{Sign}
use Rattle.selectors.specs.declared.steps.Sign.TheVariants.{NoSign, Plus, Minus}
use Rattle.selectors.specs.Characters.{is_white}

abbrev pub sign_text : Sign → List ℕ
sign_text NoSign = []
sign_text Plus = 43 ∷ []
sign_text Minus = 45 ∷ []

abbrev pub signed : Sign → ℕ → ℤ
signed NoSign n = pos n
signed Plus n = pos n
signed Minus n = neg_ℤ (pos n)

-- one to nine digits
pub record IsNumber (digits : List ℕ) : Type 0 where
  pub some : 1 ≤ length digits
  pub few : length digits ≤ 9
  pub each : list_all is_ascii_digit digits ≡ true

abbrev pub number : List ℕ → ℕ
number digits = digits_value 10 digits

-- no digits before n mean 1
abbrev pub factor : List ℕ → ℕ
factor [] = 1
factor (d ∷ digits) = number (d ∷ digits)

abbrev pub IsFactor : List ℕ → Type 0
IsFactor [] = Unit {0}
IsFactor (d ∷ digits) = IsNumber (d ∷ digits)

abbrev pub IsWhite : List ℕ → Type 0
IsWhite white = list_all is_white white ≡ true

abbrev pub IsWord : List ℕ → List ℕ → Type 0
IsWord word text = str_eq_ignore_ascii_case text word ≡ true

-- a text is an+b, with a and then b
pub data StepIs : List ℕ → ℤ → ℤ → Type 0 where
  even : (text : List ℕ) → IsWord (codes "even") text → StepIs text (pos 2) (pos 0)
  odd : (text : List ℕ) → IsWord (codes "odd") text → StepIs text (pos 2) (pos 1)
  one : (sign : Sign) (digits : List ℕ) → IsNumber digits → StepIs (sign_text sign ++ digits) (pos 0) (signed sign (number digits))
  alone : (sign : Sign) (digits n : List ℕ) → IsFactor digits → IsWord (codes "n") n → StepIs (sign_text sign ++ digits ++ n) (signed sign (factor digits)) (pos 0)
  both : (sign : Sign) (digits n left : List ℕ) (other : Sign) (right more : List ℕ) → IsFactor digits → IsWord (codes "n") n → IsWhite left → 1 ≤ length (sign_text other) → IsWhite right → IsNumber more
      → StepIs (sign_text sign ++ digits ++ n ++ left ++ sign_text other ++ right ++ more) (signed sign (factor digits)) (signed other (number more))

-- what stands in the brackets of nth-child: an+b with white space around it, and the closing bracket
pub record ArgumentIs (text : List ℕ) (a b : ℤ) (rest : List ℕ) : Type 0 where
  pub before : List ℕ
  pub step : List ℕ
  pub after : List ℕ
  pub white_before : IsWhite before
  pub is : StepIs step a b
  pub white_after : IsWhite after
  pub text_is : text ≡ before ++ step ++ after ++ 41 ∷ rest
