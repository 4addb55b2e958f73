-- The pieces of what is printed: characters that stand for themselves, and escapes in hex.
use Rattle.std.proofs.Common.{◌≡◌, ℕ, ◌+◌, ◌/◌, ◌%◌, ◌^◌, ◌<◌, ◌≤◌, Bool, true, false, not, List, [], ◌∷◌, ◌++◌, length, sym, ap, refl, ◌∙◌, arith, lit≤, length-append}
use Rattle.std.specs.Prelude.{◌==◌, map}
use Rattle.std.specs.List.{list_all, list_any, flat_map, AllByRecursion}
use Rattle.std.specs.Char.{is_ascii_hexdigit, digit_char, digit_value}
use Rattle.std.specs.Str.Parse.{digits_value}
use Rattle.std.specs.Int.Digits.{digits_of, number_from_digits}
use Rattle.std.proofs.lemmas.Bool.{and_from, or_parts, or_right, not-true, le-leb, lt-leb, ne_eqb, eqb-false, agree_below_at}
use Rattle.std.proofs.lemmas.Int.Digits.{digits_of_step, length-digits_of-le, all_below_base_digits_of, digits_value_is, number_digits_of}
use Rattle.std.proofs.lemmas.Str.{digit_value-digit_char}
use Rattle.std.proofs.lemmas.List.{map-append, length-map}
use Rattle.selectors.specs.Escapes.{Piece, hex, written, meant, scalar_of, takes_digits, takes_white, is_hex, all_written, all_meant, all_are}
use Rattle.selectors.specs.Texted.{is_text}
use Rattle.selectors.specs.Printing.{digits_text}

-- ---- digits

pub digits_text_step : (base n : ℕ) → 2 ≤ base → 0 < n → digits_text base n ≡ digits_text base (n / base) ++ digit_char (n % base) ∷ []
digits_text_step base n two some = ap (map digit_char) (digits_of_step base n two some) ∙ map-append digit_char (digits_of base (n / base)) (n % base ∷ [])

pub digits_text_some : (base n : ℕ) → 2 ≤ base → 0 < n → 1 ≤ length (digits_text base n)
digits_text_some base n two some = let e : length (digits_text base n) ≡ length (digits_text base (n / base)) + 1 = ap length (digits_text_step base n two some) ∙ length-append (digits_text base (n / base)) (digit_char (n % base) ∷ []) in omega (arith, e)

pub digits_text_few : (base most n : ℕ) → 2 ≤ base → n < base ^ most → length (digits_text base n) ≤ most
digits_text_few base most n two small = let e : length (digits_text base n) ≡ length (digits_of base n) = length-map (digits_of base n) digit_char in let h : length (digits_of base n) ≤ most = length-digits_of-le base most n two small in omega (arith, e, h)

digits_pass : (base : ℕ) (test : ℕ → Bool) → ((d : ℕ) → d < base → test (digit_char d) ≡ true) → (digits : List ℕ) → AllByRecursion (λ d. d < base) digits → list_all test (map digit_char digits) ≡ true
digits_pass base test passes [] each = refl
digits_pass base test passes (d ∷ digits) each = and_from _ _ (passes d each.0) (digits_pass base test passes digits each.1)

pub digits_text_each : (base n : ℕ) (test : ℕ → Bool) → 2 ≤ base → ((d : ℕ) → d < base → test (digit_char d) ≡ true) → list_all test (digits_text base n) ≡ true
digits_text_each base n test two passes = digits_pass base test passes (digits_of base n) (all_below_base_digits_of base n two)

values_back : (base : ℕ) → base ≤ 36 → (digits : List ℕ) → AllByRecursion (λ d. d < base) digits → map digit_value (map digit_char digits) ≡ digits
values_back base few [] each = refl
values_back base few (d ∷ digits) each = ap (λ x. x ∷ map digit_value (map digit_char digits)) (digit_value-digit_char d (let h : d < base = each.0 in omega arith)) ∙ ap (λ x. d ∷ x) (values_back base few digits each.1)

pub digits_text_value : (base n : ℕ) → 2 ≤ base → base ≤ 36 → digits_value base (digits_text base n) ≡ n
digits_text_value base n two few = digits_value_is base (digits_text base n) ∙ ap (number_from_digits base) (values_back base few (digits_of base n) (all_below_base_digits_of base n two)) ∙ number_digits_of base n two

-- ---- characters that may be printed

pub record IsSound (c : ℕ) : Type 0 where
  pub some : 0 < c

-- an escape of an ASCII character means it
same_low : (c : ℕ) → 0 < c → c < 128 → scalar_of c ≡ c
same_low c some low = rw (ne_eqb c 0 (λ e. omega arith), lt-leb 55296 c (omega arith), lt-leb 1114112 c (omega arith)) refl

abbrev pub AllSound : List ℕ → Type 0
AllSound [] = Unit {0}
AllSound (c ∷ text) = IsSound c × AllSound text

pub all_sound : (text : List ℕ) → is_text text ≡ true → AllSound text
all_sound [] texted = tt
all_sound (c ∷ text) texted =
    let q : ((c == 0) ≡ false) × (list_any (λ d. d == 0) text ≡ false) = or_parts _ _ (not-true _ texted) in
    (record { some = let n : c ≡ 0 → ⊥ = eqb-false c 0 q.0 in omega arith }, all_sound text (ap not q.1))

-- ---- a piece for a character, whatever follows

pub record Good (is_piece : Piece → List ℕ → Bool) (piece : Piece) (c : ℕ) : Type 0 where
  pub fits : (after : List ℕ) → is_piece piece after ≡ true
  pub means : meant piece ≡ c ∷ []

abbrev pub hexed : ℕ → Piece
hexed c = hex (digits_text 16 c) (32 ∷ [])

hex_digit : (d : ℕ) → d < 16 → is_ascii_hexdigit (digit_char d) ≡ true
hex_digit d small = agree_below_at (λ x. is_ascii_hexdigit (digit_char x)) (λ _. true) 16 d refl small

pub hexed_fits : (c : ℕ) → IsSound c → c < 128 → (after : List ℕ) → is_hex (digits_text 16 c) (32 ∷ []) after ≡ true
hexed_fits c is low after = let small : c < 16 ^ 6 = (let h : 128 ≤ 16 ^ 6 = lit≤ tt in omega (arith, h)) in and_from (takes_digits (digits_text 16 c) (32 ∷ after)) (takes_white (32 ∷ []) after)
    (and_from _ _ (and_from _ _ (and_from _ _ (le-leb 1 _ (digits_text_some 16 c (lit≤ tt) is.some)) (le-leb _ 6 (digits_text_few 16 6 c (lit≤ tt) small))) (digits_text_each 16 c is_ascii_hexdigit (lit≤ tt) hex_digit)) (or_right _ _ refl)) refl

pub hexed_means : (c : ℕ) → IsSound c → c < 128 → meant (hexed c) ≡ c ∷ []
hexed_means c is low = ap (λ n. scalar_of n ∷ []) (digits_text_value 16 c (lit≤ tt) (lit≤ tt)) ∙ ap (λ n. n ∷ []) (same_low c is.some low)

abbrev pub GoodList : (Piece → List ℕ → Bool) → List Piece → List ℕ → Type 0
GoodList is_piece [] [] = Unit {0}
GoodList is_piece [] (c ∷ text) = ⊥
GoodList is_piece (piece ∷ pieces) [] = ⊥
GoodList is_piece (piece ∷ pieces) (c ∷ text) = Good is_piece piece c × GoodList is_piece pieces text

pub goods_each : (is_piece : Piece → List ℕ → Bool) (pieces : List Piece) (text rest : List ℕ) → GoodList is_piece pieces text → all_are is_piece pieces rest ≡ true
goods_each is_piece [] [] rest good = refl
goods_each is_piece [] (c ∷ text) rest good = absurd good
goods_each is_piece (piece ∷ pieces) [] rest good = absurd good
goods_each is_piece (piece ∷ pieces) (c ∷ text) rest good = and_from _ _ (good.0.fits (all_written pieces ++ rest)) (goods_each is_piece pieces text rest good.1)

pub goods_mean : (is_piece : Piece → List ℕ → Bool) (pieces : List Piece) (text : List ℕ) → GoodList is_piece pieces text → text ≡ all_meant pieces
goods_mean is_piece [] [] good = refl
goods_mean is_piece [] (c ∷ text) good = absurd good
goods_mean is_piece (piece ∷ pieces) [] good = absurd good
goods_mean is_piece (piece ∷ pieces) (c ∷ text) good = ap (λ t. c ∷ t) (goods_mean is_piece pieces text good.1) ∙ ap (λ m. m ++ all_meant pieces) (sym good.0.means)

pub mapped_good : (is_piece : Piece → List ℕ → Bool) (piece_of : ℕ → Piece) → ((c : ℕ) → IsSound c → Good is_piece (piece_of c) c) → (text : List ℕ) → AllSound text → GoodList is_piece (map piece_of text) text
mapped_good is_piece piece_of good [] sound = tt
mapped_good is_piece piece_of good (c ∷ text) sound = (good c sound.0, mapped_good is_piece piece_of good text sound.1)

pub mapped_written : (piece_of : ℕ → Piece) (form : ℕ → List ℕ) → ((c : ℕ) → form c ≡ written (piece_of c)) → (text : List ℕ) → flat_map form text ≡ all_written (map piece_of text)
mapped_written piece_of form same [] = refl
mapped_written piece_of form same (c ∷ text) = ap (λ t. t ++ flat_map form text) (same c) ∙ ap (λ t. written (piece_of c) ++ t) (mapped_written piece_of form same text)
