-- The numbers of the members of a value with whole numbers are whole.
use Rattle.std.proofs.Common.{◌≡◌, ℕ, List, [], ◌∷◌, ◌++◌, map, Bool, true, false, not, ◌&&◌, cond, Option, Some, None, IfSome, IfOk, if◌then◌else◌, codes, refl, ap, sym, ◌∙◌, rules}
use Rattle.std.specs.List.{find}
use Rattle.std.specs.Option.{option_map, option_map_or, option_and_then, unwrap_or}
use Rattle.std.specs.Str.{encode_utf8_all}
use Rattle.wd_json.specs.Data.{Data, object, no_members}
use Rattle.wd_json.specs.Json.{data_of, data_step, members_data, items_data}
use Rattle.wd_json.specs.Whole.{is_whole, members_are_whole, items_are_whole}
use Rattle.wd_json.specs.declared.value.Json.{Json, out-Json, fold_out-Json, the_lemmas}
use Rattle.wd_json.specs.declared.value.Json.TheFolds.{map-Json}
use Rattle.wd_json.specs.declared.value.Json.TheOpen.{Json-F}
use Rattle.wd_json.specs.declared.value.Json.TheVariants as json
use Rattle.capabilities.specs.Values.{Member, Members, object_in, list_in, object_of, list_of, members_of, value_of, same_text, is_null}
use Rattle.capabilities.specs.Form.{Asked, capabilities_in, always_in, firsts_in, objects_in, are_objects, asked_in, asked_of, asked_by}
use Rattle.capabilities.specs.Choice.{given, merge}

abbrev pub Whole : Json → Type 0
Whole v = is_whole (data_of v) ≡ true

abbrev pub AreWhole : Members → Type 0
AreWhole ms = members_are_whole (members_data ms) ≡ true

abbrev pub ItemsWhole : List Json → Type 0
ItemsWhole vs = items_are_whole (items_data vs) ≡ true

abbrev pub AllWhole : List Members → Type 0
AllWhole [] = Unit {0}
AllWhole (ms ∷ firsts) = AreWhole ms × AllWhole firsts

both-first : (a b : Bool) → a && b ≡ true → a ≡ true
both-first true b e = refl
both-first false b e = e

both-second : (a b : Bool) → a && b ≡ true → b ≡ true
both-second true b e = e
both-second false b e = cc

pub both : (a b : Bool) → a ≡ true → b ≡ true → a && b ≡ true
both true b e f = f
both false b e f = e

-- ---- one level
abbrev step : Json-F Json → Data
step x = data_step (map-Json Json Data data_of x)

at_level : (v : Json) → Whole v → is_whole (step (out-Json v)) ≡ true
at_level v h = sym (ap is_whole (fold_out-Json Data data_step v)) ∙ h

object_level : (x : Json-F Json) → is_whole (step x) ≡ true → IfSome (object_in x) AreWhole
object_level Json-F.Null h = tt
object_level (Json-F.Bool b) h = tt
object_level (Json-F.Int z) h = tt
object_level (Json-F.Text t) h = tt
object_level (Json-F.List vs) h = tt
object_level (Json-F.Object ms) h = h

list_level : (x : Json-F Json) → is_whole (step x) ≡ true → IfSome (list_in x) ItemsWhole
list_level Json-F.Null h = tt
list_level (Json-F.Bool b) h = tt
list_level (Json-F.Int z) h = tt
list_level (Json-F.Text t) h = tt
list_level (Json-F.List vs) h = h
list_level (Json-F.Object ms) h = tt

object_of-whole : (v : Json) → Whole v → IfSome (object_of v) AreWhole
object_of-whole v h = object_level (out-Json v) (at_level v h)

list_of-whole : (v : Json) → Whole v → IfSome (list_of v) ItemsWhole
list_of-whole v h = list_level (out-Json v) (at_level v h)

members_of-whole : (v : Json) → Whole v → AreWhole (members_of v)
members_of-whole v h = by (object_of v) (object_of-whole v h)
  where
    by : (o : Option Members) → IfSome o AreWhole → AreWhole (unwrap_or o [])
    by None w = refl
    by (Some ms) w = w

-- ---- members
value_of-whole : (name : List ℕ) (ms : Members) → AreWhole ms → IfSome (value_of name ms) Whole
value_of-whole name [] h = tt
value_of-whole name (m ∷ ms) h = by (same_text (encode_utf8_all m.0) name) (value_of-whole name ms (both-second (is_whole (data_of m.1)) (members_are_whole (members_data ms)) h))
  where
    by : (b : Bool) → IfSome (value_of name ms) Whole → IfSome (option_map (λ (n : Member). n.1) (cond b (Some m) (find (λ (n : Member). same_text (encode_utf8_all n.0) name) ms))) Whole
    by true w = both-first (is_whole (data_of m.1)) (members_are_whole (members_data ms)) h
    by false w = w

given-whole : (ms : Members) → AreWhole ms → AreWhole (given ms)
given-whole [] h = refl
given-whole (m ∷ ms) h = by (not (is_null m.1)) (given-whole ms (both-second (is_whole (data_of m.1)) (members_are_whole (members_data ms)) h))
  where
    by : (b : Bool) → AreWhole (given ms) → AreWhole (cond b (m ∷ given ms) (given ms))
    by true w = both (is_whole (data_of m.1)) (members_are_whole (members_data (given ms))) (both-first (is_whole (data_of m.1)) (members_are_whole (members_data ms)) h) w
    by false w = w

joined-whole : (ms ns : Members) → AreWhole ms → AreWhole ns → AreWhole (ms ++ ns)
joined-whole [] ns h k = k
joined-whole (m ∷ ms) ns h k =
    both (is_whole (data_of m.1)) (members_are_whole (members_data (ms ++ ns))) (both-first (is_whole (data_of m.1)) (members_are_whole (members_data ms)) h)
    (joined-whole ms ns (both-second (is_whole (data_of m.1)) (members_are_whole (members_data ms)) h) k)

merge-whole : (always first : Members) → AreWhole always → AreWhole first → AreWhole (merge always first)
merge-whole always first h k = joined-whole (given always) (given first) (given-whole always h) (given-whole first k)

-- the merge that a test finds
pub found-whole : (test : Members → Bool) (always : Members) (firsts : List Members) → AreWhole always → AllWhole firsts → IfSome (find test (map (merge always) firsts)) AreWhole
found-whole test always [] h k = tt
found-whole test always (ms ∷ firsts) h k = by (test (merge always ms)) (found-whole test always firsts h k.1)
  where
    by : (b : Bool) → IfSome (find test (map (merge always) firsts)) AreWhole → IfSome (cond b (Some (merge always ms)) (find test (map (merge always) firsts))) AreWhole
    by true w = merge-whole always ms h k.0
    by false w = w

-- ---- the form
then-whole : {A B : Type 0} (f : A → Option B) (o : Option A) (P : A → Type 0) (Q : B → Type 0) → IfSome o P → ((a : A) → P a → IfSome (f a) Q) → IfSome (option_and_then f o) Q
then-whole f None P Q h k = tt
then-whole f (Some a) P Q h k = k a h

capabilities-whole : (p : Json) → Whole p → IfSome (capabilities_in p) AreWhole
capabilities-whole p h =
    then-whole object_of (option_and_then (value_of (codes "capabilities")) (object_of p)) Whole AreWhole
    (then-whole (value_of (codes "capabilities")) (object_of p) AreWhole Whole (object_of-whole p h) (value_of-whole (codes "capabilities"))) object_of-whole

always-whole : (caps : Members) → AreWhole caps → IfSome (always_in caps) AreWhole
always-whole caps h = by (value_of (codes "alwaysMatch") caps) (value_of-whole (codes "alwaysMatch") caps h)
  where
    by : (o : Option Json) → IfSome o Whole → IfSome (option_map_or object_of o (Some [])) AreWhole
    by None w = refl
    by (Some v) w = object_of-whole v w

objects-whole : (vs : List Json) → ItemsWhole vs → AllWhole (map members_of vs)
objects-whole [] h = tt
objects-whole (v ∷ vs) h =
    (members_of-whole v (both-first (is_whole (data_of v)) (items_are_whole (items_data vs)) h), objects-whole vs (both-second (is_whole (data_of v)) (items_are_whole (items_data vs)) h))

firsts-whole : (caps : Members) → AreWhole caps → IfSome (firsts_in caps) AllWhole
firsts-whole caps h = by (value_of (codes "firstMatch") caps) (value_of-whole (codes "firstMatch") caps h)
  where
    tested : (vs : List Json) (b : Bool) → ItemsWhole vs → IfSome (option_map (map members_of) (if b then Some vs else None)) AllWhole
    tested vs true w = objects-whole vs w
    tested vs false w = tt

    listed : (o : Option (List Json)) → IfSome o ItemsWhole → IfSome (option_map (map members_of) (option_and_then (λ vs. if are_objects vs then Some vs else None) o)) AllWhole
    listed None w = tt
    listed (Some vs) w = tested vs (are_objects vs) w

    by : (o : Option Json) → IfSome o Whole → IfSome (option_map_or (λ v. option_map (map members_of) (objects_in v)) o (Some ([] ∷ []))) AllWhole
    by None w = (refl, tt)
    by (Some v) w = listed (list_of v) (list_of-whole v w)

-- the parts of a request, where they have their form
pub record AskedWhole (asked : Asked) : Type 0 where
  pub always : AreWhole asked.always
  pub firsts : AllWhole asked.firsts

pub asked-whole : (p : Json) → Whole p → IfOk (asked_in p) AskedWhole
asked-whole p h = by (capabilities_in p) (capabilities-whole p h)
  where
    forms : (a : Option Members) (f : Option (List Members)) → IfSome a AreWhole → IfSome f AllWhole → IfOk (asked_of a f) AskedWhole
    forms None f w x = tt
    forms (Some a) None w x = tt
    forms (Some a) (Some f) w x = record { always = w; firsts = x }

    by : (o : Option Members) → IfSome o AreWhole → IfOk (asked_by o) AskedWhole
    by None w = tt
    by (Some caps) w = forms (always_in caps) (firsts_in caps) (always-whole caps w) (firsts-whole caps w)

empty_object : data_of (json.Object []) ≡ object no_members
empty_object = search (rules, the_lemmas)

pub proxy-whole : (name : List ℕ) (ms : Members) → AreWhole ms → Whole (unwrap_or (value_of name ms) (json.Object []))
proxy-whole name ms h = by (value_of name ms) (value_of-whole name ms h)
  where
    by : (o : Option Json) → IfSome o Whole → Whole (unwrap_or o (json.Object []))
    by None w = ap is_whole empty_object
    by (Some v) w = w
