-- The numbers of what a list of effects is spelled with are whole.
use Rattle.std.proofs.Common.{◌≡◌, ℕ, pos, ◌<◌, ◌^◌, nat_lt, Bool, true, List, [], ◌∷◌, ◌++◌, refl, ap, ◌∙◌, arith, tests}
use Rattle.std.proofs.lemmas.Bool.{and_from}
use Rattle.page_file.proofs.Tests.{first_of, second_of}
use Rattle.wd_json.proofs.Shapes.{data_of-Null, data_of-Bool, data_of-Int, data_of-Text, data_of-List}
use Rattle.wd_json.specs.Json.{data_of, items_data}
use Rattle.wd_json.specs.Whole.{is_whole, items_are_whole}
use Rattle.wd_json.specs.declared.value.Json.{Json}
use Rattle.wd_json.specs.declared.value.Json.TheVariants as json

abbrev pub Whole : Json → Type 0
Whole v = is_whole (data_of v) ≡ true

abbrev pub AreWhole : List Json → Type 0
AreWhole vs = items_are_whole (items_data vs) ≡ true

pub null_whole : Whole json.Null
null_whole = ap is_whole data_of-Null

pub bool_whole : (b : Bool) → Whole (json.Bool b)
bool_whole b = ap is_whole (data_of-Bool b)

pub text_whole : (t : List ℕ) → Whole (json.Text t)
text_whole t = ap is_whole (data_of-Text t)

pub natural_whole : (n : ℕ) → n < 2 ^ 53 → Whole (json.Int (pos n))
natural_whole n h =
    let below : nat_lt n (2 ^ 53) ≡ true = grind (arith, tests) in
    ap is_whole (data_of-Int (pos n)) ∙ below

pub items_more : (vs : List Json) (v : Json) → AreWhole vs → Whole v → AreWhole (vs ++ v ∷ [])
items_more [] v h k = and_from (is_whole (data_of v)) true k refl
items_more (w ∷ vs) v h k =
    and_from (is_whole (data_of w)) (items_are_whole (items_data (vs ++ v ∷ []))) (first_of (is_whole (data_of w)) (items_are_whole (items_data vs)) h)
    (items_more vs v (second_of (is_whole (data_of w)) (items_are_whole (items_data vs)) h) k)

pub list_whole : (vs : List Json) → AreWhole vs → Whole (json.List vs)
list_whole vs h = ap is_whole (data_of-List vs) ∙ h

pub ruleset whole_values = (null_whole, bool_whole, text_whole, natural_whole, list_whole)
