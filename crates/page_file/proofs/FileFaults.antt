-- What is wrong with one file, by what was read of it.
use Rattle.std.proofs.Common.{◌≡◌, ◌≢◌, ◌⊎◌, inl, inr, ℕ, ◌+◌, ◌≤◌, true, false, List, Option, Some, Result, Err, length, refl, sym, ap, subst, ◌∙◌, arith}
use Rattle.std.proofs.lemmas.Bool.{or_from}
use Rattle.std.specs.Prelude.{nat_lt, IfErr}
use Rattle.std.specs.Option.{option_map_or}
use Rattle.std.proofs.lemmas.Bool.Decides.{nat_tests}
use Rattle.page_engine.specs.declared.page_def.PageDef.{PageDef}
use Rattle.page_file.proofs.Tests.{some_is}
use Rattle.page_file.specs.Rows.{Fault}
use Rattle.page_file.specs.SiteFiles.{FileMap, file_limit, files_limit, bytes_at, size_at, is_too_long, IsTextOf, IsFileOf, no_value, bad_value, IsBadAt, IsFileFault, IsPagesFault, IsReadCause}
use Rattle.page_file.specs.declared.listing.Entry.{Entry}
use Rattle.page_file.specs.declared.site_fault.SiteFault.{SiteFault}
use Rattle.page_file.specs.declared.site_fault.SiteFault.TheVariants.{Read, TooLong, Bad, Links, Memory}
use Rattle.page_file.specs.declared.why.Why.{Why}
use Rattle.page_file.specs.declared.why.Why.TheVariants as reason
use Rattle.wd_json.specs.Json.{data_of}
use Rattle.wd_json.specs.Whole.{IsCause, is_whole}
use Rattle.wd_json.specs.declared.fault.JsonFault.{JsonFault}
use Rattle.wd_json.specs.declared.fault.JsonFault.TheVariants as json
use Rattle.wd_json.specs.declared.value.Json.{Json}

-- it doesn't show at this file that files are too long
pub not_long : (before size : ℕ) → size ≤ file_limit → before + size ≤ files_limit → is_too_long before size ≡ false
not_long before size short few = or_from (nat_lt 8388608 size) (nat_lt 33554432 (before + size)) (grind (arith, nat_tests)) (grind (arith, nat_tests))

pub size_is : (files : FileMap) (name bytes : List ℕ) → bytes_at files name ≡ Some bytes → size_at files name ≡ length bytes
size_is files name bytes here = ap (λ (o : Option (List ℕ)). option_map_or length o 0) here

-- no value has bytes as its text of which there was a reason to read none
pub no_text : (bytes : List ℕ) (fault : JsonFault) → IsCause bytes fault → fault ≢ json.Memory → (v : Json) → IsTextOf bytes v → ⊥
no_text bytes json.NotJson cause other v is = cause (data_of v) is.0
no_text bytes json.NotWhole cause other v is =
    let same : cause.0 ≡ data_of v = some_is cause.0 (data_of v) (sym cause.1.1 ∙ is.0.1) in
    let whole : false ≡ true = sym cause.2 ∙ ap is_whole same ∙ is.1 in
    absurd (let f : false ≡ true = whole in cc)
no_text bytes json.Memory cause other v is = absurd (other refl)

module _ (files : FileMap) (name : List ℕ) (before : ℕ) where
  pub no_value_at : (wrong : Json → Option Fault) (bytes : List ℕ) → bytes_at files name ≡ Some bytes → length bytes ≤ file_limit → before + length bytes ≤ files_limit
      → ((v : Json) → IsTextOf bytes v → ⊥) → IsBadAt files name before wrong 0 reason.Json
  no_value_at wrong bytes here short few none = record {
    bytes = bytes;
    here = here;
    fits = not_long before (length bytes) short few;
    is_wrong = no_value none refl refl;
  }

  pub bad_value_at : (wrong : Json → Option Fault) (v : Json) (row : ℕ) (why : Why) → IsFileOf files name v → before + size_at files name ≤ files_limit
      → wrong v ≡ Some (row, why) → IsBadAt files name before wrong row why
  bad_value_at wrong v row why is few fault = record {
    bytes = is.bytes;
    here = is.here;
    fits = not_long before (length is.bytes) is.fits (subst (λ (n : ℕ). before + n ≤ files_limit) (size_is files name is.bytes is.here) few);
    is_wrong = bad_value v is.text fault;
  }

  pub bad_fault : (wrong : Json → Option Fault) (row : ℕ) (why : Why) (r : SiteFault) → (r ≡ Bad name row why) ⊎ (r ≡ Memory) → IsBadAt files name before wrong row why → IsFileFault files name before wrong r
  bad_fault wrong row why r (inl is) at = subst (IsFileFault files name before wrong) (sym is) (refl, at)
  bad_fault wrong row why r (inr is) at = subst (IsFileFault files name before wrong) (sym is) tt

-- a bad file isn't one whose read failed
pub no_read : (before now : ℕ) (name : List ℕ) (row : ℕ) (why : Why) (r : SiteFault) → now ≡ before → (r ≡ Bad name row why) ⊎ (r ≡ Memory) → IsReadCause before now r
no_read before now name row why r same (inl is) = subst (IsReadCause before now) (sym is) same
no_read before now name row why r same (inr is) = subst (IsReadCause before now) (sym is) same

-- no page leads to a read
pub pages_cause : (before now : ℕ) (entries : List Entry) (pages : List PageDef) (fault : SiteFault) → now ≡ before → IsPagesFault entries pages fault → IsReadCause before now fault
pages_cause before now entries pages (Read name) same wrong = absurd wrong
pages_cause before now entries pages (TooLong name) same wrong = absurd wrong
pages_cause before now entries pages (Bad name row why) same wrong = same
pages_cause before now entries pages (Links name) same wrong = same
pages_cause before now entries pages Memory same wrong = same

-- a clause on a fault, for the result that holds it
pub of_err : {T : Type 0} (P : SiteFault → Type 0) (r : Result T SiteFault) (fault : SiteFault) → r ≡ Err fault → P fault → IfErr r P
of_err {T} P r fault is h = subst (λ (x : Result T SiteFault). IfErr x P) (sym is) h

-- the cause since an earlier moment, where the count stood then as it did later
pub cause_since : (first before now : ℕ) (fault : SiteFault) → before ≡ first → IsReadCause before now fault → IsReadCause first now fault
cause_since first before now fault same cause = subst (λ (n : ℕ). IsReadCause n now fault) same cause
