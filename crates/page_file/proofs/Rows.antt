-- Lists whose values are read one by one, each by what those before it gave.
use Rattle.std.proofs.Common.{◌≡◌, ℕ, ◌+◌, ◌<◌, ◌≤◌, Bool, true, false, List, [], ◌∷◌, ◌++◌, Option, Some, None, Result, Ok, Err, length, get_or, drop, refl, sym, ap, subst, ◌∙◌, arith, length-append}
use Rattle.std.specs.Prelude.{if◌then◌else◌}
use Rattle.std.proofs.lemmas.List.{at_drop_more, at_drop_all}
use Rattle.page_file.proofs.Tests.{some_is}
use Rattle.page_file.specs.Rows.{if_ok, or_fault, keep, in_row, rows_after, rows, IsFaultOf, IsNextFault}
use Rattle.page_file.specs.declared.page_fault.PageFault.{PageFault}
use Rattle.page_file.specs.declared.page_fault.PageFault.TheVariants.{Bad, Memory}
use Rattle.page_file.specs.declared.why.Why.{Why}
use Rattle.wd_json.specs.declared.value.Json.{Json}

-- ---- what is so of what was read

abbrev pub done : {A : Type 0} → (E : Type 0) → A → Result A E
done E a = Ok a

pub ok_is : {A E : Type 0} (x y : A) → done E x ≡ Ok y → x ≡ y
ok_is x y e = cc

pub went_on : {A B E : Type 0} (more : A → Result B E) (read : Result A E) (b : B) → if_ok more read ≡ Ok b → (a : A) × (read ≡ Ok a) × (more a ≡ Ok b)
went_on more (Ok a) b e = (a, refl, e)
went_on more (Err fault) b e = cc

pub was_there : {A E : Type 0} (fault : E) (o : Option A) (a : A) → or_fault fault o ≡ Ok a → o ≡ Some a
was_there fault None a e = cc
was_there fault (Some x) a e = ap Some (ok_is x a e)

pub was_kept : {A : Type 0} (test : A → Bool) (o : Option A) (a : A) → keep test o ≡ Some a → (o ≡ Some a) × (test a ≡ true)
was_kept test None a e = cc
was_kept {A} test (Some x) a e = at (test x) refl e
  where
    at : (b : Bool) → test x ≡ b → keep test (Some x) ≡ Some a → (Some x ≡ Some a) × (test a ≡ true)
    at true is h = let same : x ≡ a = some_is x a (sym (ap (λ (b : Bool). if b then Some x else None) is) ∙ h) in (ap Some same, sym (ap test same) ∙ is)
    at false is h = absurd (let f : None ≡ Some a = sym (ap (λ (b : Bool). if b then Some x else None) is) ∙ h in cc)

-- what is there, by the test
pub kept_if : {A E : Type 0} (test : A → Bool) (fault : E) (o : Option A) (a : A) (b : Bool) → o ≡ Some a → test a ≡ b → or_fault fault (keep test o) ≡ or_fault fault (if b then Some a else None)
kept_if {A} test fault o a b there is = ap (λ (o : Option A). or_fault fault (keep test o)) there ∙ ap (λ (b : Bool). or_fault fault (if b then Some a else None)) is

-- ---- a row more

module _ {A : Type 0} (next : List A → Json → Result A Why) where
  -- what is so at first, and stays so with each value, is so of all
  pub rows_keep : (P : List A → Type 0) → ((earlier : List A) (v : Json) (a : A) → P earlier → next earlier v ≡ Ok a → P (earlier ++ a ∷ []))
      → (values : List Json) (earlier all : List A) → P earlier → rows_after next earlier values ≡ Ok all → P all
  rows_keep P step [] earlier all so e = subst P (ok_is earlier all e) so
  rows_keep P step (v ∷ vs) earlier all so e = at (next earlier v) refl (λ a. rows_keep P step vs (earlier ++ a ∷ []) all) e
    where
      at : (r : Result A Why) → next earlier v ≡ r → ((a : A) → P (earlier ++ a ∷ []) → rows_after next (earlier ++ a ∷ []) vs ≡ Ok all → P all)
          → in_row (length earlier) (λ a. rows_after next (earlier ++ a ∷ []) vs) r ≡ Ok all → P all
      at (Ok a) is rest h = rest a (step earlier v a so is) h
      at (Err why) is rest h = cc

  pub rows_length : (values : List Json) (earlier all : List A) → rows_after next earlier values ≡ Ok all → length all ≡ length earlier + length values
  rows_length [] earlier all e = omega (arith, ap length (ok_is earlier all e))
  rows_length (v ∷ vs) earlier all e = at (next earlier v) (λ a. rows_length vs (earlier ++ a ∷ []) all) e
    where
      at : (r : Result A Why) → ((a : A) → rows_after next (earlier ++ a ∷ []) vs ≡ Ok all → length all ≡ length (earlier ++ a ∷ []) + length vs)
          → in_row (length earlier) (λ a. rows_after next (earlier ++ a ∷ []) vs) r ≡ Ok all → length all ≡ length earlier + length (v ∷ vs)
      at (Ok a) rest h = omega (arith, rest a h, length-append earlier (a ∷ []))
      at (Err why) rest h = cc

  -- where a loop has read these
  module _ (values : List Json) (i : ℕ) (earlier : List A) (read : rows next values ≡ rows_after next earlier (drop i values)) where
    pub rows_end : length values ≤ i → rows next values ≡ Ok earlier
    rows_end past = read ∙ at_drop_all (rows_after next earlier) values i past

    module _ (v : Json) (within : i < length values) (is : v ≡ get_or values i v) where
      row_is : rows next values ≡ in_row (length earlier) (λ a. rows_after next (earlier ++ a ∷ []) (drop (i + 1) values)) (next earlier v)
      row_is =
          read ∙ at_drop_more (rows_after next earlier) values i v within
          ∙ ap (λ (w : Json). in_row (length earlier) (λ a. rows_after next (earlier ++ a ∷ []) (drop (i + 1) values)) (next earlier w)) (sym is)

      pub row_more : (a : A) → next earlier v ≡ Ok a → rows next values ≡ rows_after next (earlier ++ a ∷ []) (drop (i + 1) values)
      row_more a there = row_is ∙ ap (in_row (length earlier) (λ a. rows_after next (earlier ++ a ∷ []) (drop (i + 1) values))) there

      pub row_fault : (fault : PageFault) → IsNextFault earlier (next earlier v) fault → IsFaultOf (rows next values) fault
      row_fault (Bad row why) wrong =
          row_is ∙ ap (in_row (length earlier) (λ a. rows_after next (earlier ++ a ∷ []) (drop (i + 1) values))) wrong.1 ∙ ap (λ n. Err (n, why)) (sym wrong.0)
      row_fault Memory wrong = tt
