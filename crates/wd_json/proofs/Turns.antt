-- The turns by which a list and an object are read, token by token.
use Rattle.std.proofs.Common.{◌≡◌, ℕ, ◌-◌, ◌<◌, ◌≤◌, List, [], ◌∷◌, ◌++◌, length, ◌&&◌, Bool, true, false, nat_cmp, Option, Some, None, option_map, Ordering, Less, Equal, Greater, refl, sym, ap, ◌∙◌}
use Rattle.std.specs.Cmp.Lexicographic.{slice_cmp}
use Rattle.std.specs.Ordering.{match_ordering}
use Rattle.std.specs.Str.{encode_utf8_all}
use Rattle.json.specs.Token.{Token}
use Rattle.json.specs.Json as text
use Rattle.json.specs.Json.{parse_map, after_end_array, read_key, items, members, value}
use Rattle.json.proofs.Grammar.{value-begin_array, value-begin_object, items_end, items_more, members_end, members_more}
use Rattle.serde_json.specs.Data.{Data, array, object, Items, no_items, item, Members, no_members, member, put as put_data}
use Rattle.serde_json.specs.Read.{of_json, of_items, of_members, converted}
use Rattle.wd_json.specs.Json.{data_of, items_data, members_data}
use Rattle.wd_json.specs.Keys.{text_cmp, put}
use Rattle.wd_json.specs.Whole.{is_whole, items_are_whole, members_are_whole}
use Rattle.wd_json.specs.declared.value.Json.{Json}
use Rattle.wd_json.proofs.Members.{Entry}

both : (a b : Bool) → (a && b) ≡ true → (a ≡ true) × (b ≡ true)
both true true e = (refl, refl)
both true false e = absurd (cc)
both false b e = absurd (cc)

-- ---- what was read, seen as data

inside : {B : Type 0} (r s : List Token) (x : Option B) (b : B) → option_map {U = B × List Token} (λ y. (y, r)) x ≡ Some (b, s) → (r ≡ s) × (x ≡ Some b)
inside r s None b e = absurd (cc)
inside {B} r s (Some y) b e = let pair : ◌≡◌ {A = B × List Token} (y, r) (b, s) = cc in (ap (λ p. p.1) pair, ap (λ p. Some p.0) pair)

-- where there is data, there was a text's value
from_text : {A B : Type 0} (f : A → Option B) (o : Option (A × List Token)) (b : B) (r : List Token) → converted f o ≡ Some (b, r) → (a : A) × (o ≡ Some (a, r)) × (f a ≡ Some b)
from_text f None b r e = absurd (cc)
from_text f (Some p) b r e = let known = inside p.1 r (f p.0) b e in (p.0, ap (λ s. Some (p.0, s)) known.0, known.1)

later : {A B : Type 0} (g : A → B) (r : List Token) (x : Option A) → option_map {U = B × List Token} (λ b. (b, r)) (option_map g x) ≡ parse_map g (option_map (λ a. (a, r)) x)
later g r None = refl
later g r (Some a) = refl

listed : (o : Option (text.Items × List Token)) → converted of_json (parse_map text.array o) ≡ parse_map array (converted of_items o)
listed None = refl
listed (Some p) = later array p.1 (of_items p.0)

named : (o : Option (text.Members × List Token)) → converted of_json (parse_map text.object o) ≡ parse_map object (converted (λ ms. of_members ms no_members) o)
named None = refl
named (Some p) = later object p.1 (of_members p.0 no_members)

-- ---- one value

-- a list
pub of_list : (depth : ℕ) (ts r s : List Token) (ds : Items) → 0 < depth → ts ≡ Token.begin_array ∷ s → converted of_items (items (value (depth - 1)) (length s) s) ≡ Some (ds, r)
    → converted of_json (value depth ts) ≡ Some (array ds, r)
of_list depth ts r s ds some is within =
    ap (converted of_json) (ap (value depth) is ∙ value-begin_array depth s some) ∙ listed (items (value (depth - 1)) (length s) s) ∙ ap (parse_map array) within

-- an object
pub of_object : (depth : ℕ) (ts r s : List Token) (ms : Members) → 0 < depth → ts ≡ Token.begin_object ∷ s
    → converted (λ es. of_members es no_members) (members (value (depth - 1)) (length s) s) ≡ Some (ms, r) → converted of_json (value depth ts) ≡ Some (object ms, r)
of_object depth ts r s ms some is within =
    ap (converted of_json) (ap (value depth) is ∙ value-begin_object depth s some) ∙ named (members (value (depth - 1)) (length s) s) ∙ ap (parse_map object) within

-- ---- a list, item by item

-- these items before the rest
abbrev pub before : List Json → Items → Items
before [] rest = rest
before (j ∷ js) rest = item (data_of j) (before js rest)

before_none : (js : List Json) → before js no_items ≡ items_data js
before_none [] = refl
before_none (j ∷ js) = ap (item (data_of j)) (before_none js)

before_one : (js : List Json) (j : Json) (rest : Items) → before js (item (data_of j) rest) ≡ before (js ++ j ∷ []) rest
before_one [] j rest = refl
before_one (i ∷ js) j rest = ap (item (data_of i)) (before_one js j rest)

pushed : (js : List Json) (j : Json) (r : Option (Items × List Token)) → parse_map (before js) (parse_map (item (data_of j)) r) ≡ parse_map (before (js ++ j ∷ [])) r
pushed js j None = refl
pushed js j (Some p) = ap (λ ds. Some (ds, p.1)) (before_one js j p.0)

with_item : (j : text.Json) (d : Data) → of_json j ≡ Some d → (o : Option (text.Items × List Token)) → converted of_items (parse_map (text.item j) o) ≡ parse_map (item d) (converted of_items o)
with_item j d e None = refl
with_item j d e (Some p) = rw e (later (item d) p.1 (of_items p.0))

-- one more item
pub next_item : (depth n : ℕ) (js : List Json) (j : Json) (ts r : List Token) → 0 < n → after_end_array ts ≡ None → converted of_json (value depth ts) ≡ Some (data_of j, r)
    → parse_map (before js) (converted of_items (items (value depth) n ts)) ≡ parse_map (before (js ++ j ∷ [])) (converted of_items (items (value depth) (n - 1) r))
next_item depth n js j ts r some going e =
    let known = from_text of_json (value depth ts) (data_of j) r e in
    ap (λ o. parse_map (before js) (converted of_items o)) (items_more (value depth) n ts r known.0 some going known.1)
    ∙ ap (parse_map (before js)) (with_item known.0 (data_of j) known.2 _) ∙ pushed js j _

-- the bracket that ends the list
pub last_item : (depth n : ℕ) (js : List Json) (ts r : List Token) → length ts ≤ n → after_end_array ts ≡ Some r → parse_map (before js) (converted of_items (items (value depth) n ts)) ≡ Some (items_data js, r)
last_item depth n js ts r enough e =
    ap (λ o. parse_map (before js) (converted of_items o)) (items_end (value depth) n ts r enough e) ∙ ap (λ ds. Some (ds, r)) (before_none js)

pub items_whole : (js : List Json) (j : Json) → items_are_whole (items_data js) ≡ true → is_whole (data_of j) ≡ true → items_are_whole (items_data (js ++ j ∷ [])) ≡ true
items_whole [] j h one = rw one refl
items_whole (i ∷ js) j h one = let parts = both (is_whole (data_of i)) (items_are_whole (items_data js)) h in rw (parts.0, items_whole js j parts.1 one) refl

-- ---- an object, member by member

over : (o : Ordering) (a b c : List Entry) → members_data (match_ordering o a b c) ≡ match_ordering o (members_data a) (members_data b) (members_data c)
over Less a b c = refl
over Equal a b c = refl
over Greater a b c = refl

-- an entry put into a map is a member put among its data
put_is : (k : List ℕ) (j : Json) (es : List Entry) → members_data (put k j es) ≡ put_data (encode_utf8_all k) (data_of j) (members_data es)
put_is k j [] = refl
put_is k j (e ∷ es) = over (text_cmp k e.0) _ _ _ ∙ rw (put_is k j es) refl

with_member : (k : List ℕ) (j : text.Json) (d : Data) (old : Members) → of_json j ≡ Some d → (o : Option (text.Members × List Token))
    → converted (λ ms. of_members ms old) (parse_map (text.member k j) o) ≡ converted (λ ms. of_members ms (put_data k d old)) o
with_member k j d old e None = refl
with_member k j d old e (Some p) = rw e refl

-- one more member
pub next_member : (depth n : ℕ) (es : List Entry) (k : List ℕ) (j : Json) (ts s r : List Token) → 0 < n → read_key ts ≡ Some (Some (encode_utf8_all k), s) → converted of_json (value depth s) ≡ Some (data_of j, r)
    → converted (λ ms. of_members ms (members_data es)) (members (value depth) n ts) ≡ converted (λ ms. of_members ms (members_data (put k j es))) (members (value depth) (n - 1) r)
next_member depth n es k j ts s r some key e =
    let known = from_text of_json (value depth s) (data_of j) r e in
    ap (converted (λ ms. of_members ms (members_data es))) (members_more (value depth) n (encode_utf8_all k) ts s r known.0 some key known.1)
    ∙ with_member (encode_utf8_all k) known.0 (data_of j) (members_data es) known.2 _
    ∙ ap (λ old. converted (λ ms. of_members ms old) (members (value depth) (n - 1) r)) (sym (put_is k j es))

-- the brace that ends the object
pub last_member : (depth n : ℕ) (old : Members) (ts r : List Token) → length ts ≤ n → read_key ts ≡ Some (None, r) → converted (λ ms. of_members ms old) (members (value depth) n ts) ≡ Some (old, r)
last_member depth n old ts r enough e = ap (converted (λ ms. of_members ms old)) (members_end (value depth) n ts r enough e)

each : (o : Ordering) (a b c : Members) → members_are_whole a ≡ true → members_are_whole b ≡ true → members_are_whole c ≡ true → members_are_whole (match_ordering o a b c) ≡ true
each Less a b c p q r = p
each Equal a b c p q r = q
each Greater a b c p q r = r

put_whole_data : (k : List ℕ) (d : Data) (ms : Members) → members_are_whole ms ≡ true → is_whole d ≡ true → members_are_whole (put_data k d ms) ≡ true
put_whole_data k d no_members h one = rw one refl
put_whole_data k d (member l e ms) h one =
    let parts = both (is_whole e) (members_are_whole ms) h in
    each (slice_cmp nat_cmp k l) _ _ _ (rw (one, h) refl) (rw (one, parts.1) refl) (rw (parts.0, put_whole_data k d ms parts.1 one) refl)

pub put_whole : (k : List ℕ) (j : Json) (es : List Entry) → members_are_whole (members_data es) ≡ true → is_whole (data_of j) ≡ true → members_are_whole (members_data (put k j es)) ≡ true
put_whole k j es h one = ap members_are_whole (put_is k j es) ∙ put_whole_data (encode_utf8_all k) (data_of j) (members_data es) h one
