-- The names of an object's members differ, and so do the attributes and the types of events that they name.
use Rattle.std.proofs.Common.{◌≡◌, ℕ, Bool, true, false, ◌&&◌, List, [], ◌∷◌, Option, Some, None, Less, nat_cmp, map, refl, sym, ap, ◌∙◌}
use Rattle.std.proofs.lemmas.Bool.{false_from_ne_true, or_from}
use Rattle.std.specs.Prelude.{Result, Ok, Err, IfOk, IfSome, not, if◌then◌else◌, slice_index_or}
use Rattle.std.proofs.lemmas.Bool.Decides.{Decides-eqb}
use Rattle.std.proofs.lemmas.Map.Text.{is_eq-slice_cmp}
use Rattle.std.proofs.lemmas.Slice.Eq.{bytes_eq-Decides}
use Rattle.std.specs.Cmp.Lexicographic.{slice_cmp}
use Rattle.std.specs.List.{list_any, list_all, find, AllByRecursion}
use Rattle.std.specs.List.Sorted.{IsStrictlySortedBy}
use Rattle.std.specs.Map.{keys_of}
use Rattle.std.specs.Option.{option_map, option_and_then}
use Rattle.std.specs.Ordering.{is_eq}
use Rattle.std.specs.Str.{bytes_eq, encode_utf8_all}
use Rattle.page_engine.specs.Fitting.{anywhere, fit_at}
use Rattle.page_engine.specs.Kinds.{is_same_kind, kind_number}
use Rattle.page_engine.specs.Lines.{kind_name}
use Rattle.page_engine.specs.Names.{is_attribute_name}
use Rattle.page_engine.specs.Nodes.{are_attributes, are_handlers}
use Rattle.page_engine.specs.declared.effect.Effect.{Effect}
use Rattle.page_engine.specs.declared.event.EventKind.{EventKind}
use Rattle.page_engine.specs.declared.event.EventKind.TheVariants.{PointerMove, PointerDown, PointerUp, Click, KeyDown, KeyUp, Input, Change, Focus, Blur, Submit, Reset}
use Rattle.page_file.proofs.Tests.{some_is, first_of, second_of}
use Rattle.page_file.specs.Members.{Members, each_of}
use Rattle.page_file.specs.NodeValues.{Attribute, attribute_of, Handler, handler_of, kind_named, all_kinds}
use Rattle.page_file.specs.Spelled.{effects_in}
use Rattle.page_file.specs.Values.{text_of}
use Rattle.wd_json.specs.Keys.{text_cmp, KeysRise}
use Rattle.wd_json.specs.declared.value.Json.{Json}

three : (a b c : Bool) → a ≡ true → b ≡ false → c ≡ true → (a && (not b && c)) ≡ true
three true true c p q r = cc
three true false c p q r = r
three false b c p q r = p

-- a text is not below itself
below_differs : (a b : List ℕ) → text_cmp a b ≡ Less → bytes_eq b a ≡ false
below_differs a b h = false_from_ne_true (bytes_eq b a) (λ same.
    let equal : b ≡ a = (bytes_eq-Decides b a).0 same in
    let at_a : slice_cmp nat_cmp (encode_utf8_all a) (encode_utf8_all a) ≡ Less = ap (text_cmp a) (sym equal) ∙ h in
    let itself : bytes_eq (encode_utf8_all a) (encode_utf8_all a) ≡ true = (bytes_eq-Decides (encode_utf8_all a) (encode_utf8_all a)).1 refl in
    let wrong : false ≡ true = sym (ap is_eq at_a) ∙ is_eq-slice_cmp (encode_utf8_all a) (encode_utf8_all a) ∙ itself in
    cc)

-- ---- attributes

attribute_parts : (m : List ℕ × Json) (a : Attribute) → attribute_of m ≡ Some a → (is_attribute_name a.0 ≡ true) × (a.0 ≡ m.0)
attribute_parts m a = at (is_attribute_name m.0) (text_of m.1) refl
  where
    at : (b : Bool) (t : Option (List ℕ)) → is_attribute_name m.0 ≡ b → (if b then option_map (λ t. (m.0, t)) t else None) ≡ Some a
        → (is_attribute_name a.0 ≡ true) × (a.0 ≡ m.0)
    at true None is e = cc
    at true (Some t) is e =
        let pair : (m.0, t) ≡ a = some_is (m.0, t) a e in
        let name : m.0 ≡ a.0 = ap (λ (p : Attribute). p.0) pair in
        (ap is_attribute_name (sym name) ∙ is, sym name)
    at false t is e = cc

none_named : (k : List ℕ) (ms : Members) (found : List Attribute) → AllByRecursion (λ y. text_cmp k y ≡ Less) (keys_of ms) → each_of attribute_of ms ≡ Some found
    → list_any (λ other. bytes_eq other.0 k) found ≡ false
none_named k [] found h e = ap (list_any (λ (other : Attribute). bytes_eq other.0 k)) (sym (some_is [] found e))
none_named k (m ∷ ms) found h e = at (λ rest g. none_named k ms rest h.1 g) (attribute_of m) (each_of attribute_of ms) refl refl e
  where
    at : ((rest : List Attribute) → each_of attribute_of ms ≡ Some rest → list_any (λ other. bytes_eq other.0 k) rest ≡ false)
        → (o : Option Attribute) (r : Option (List Attribute)) → attribute_of m ≡ o → each_of attribute_of ms ≡ r
        → option_and_then (λ y. option_map (λ ys. y ∷ ys) r) o ≡ Some found → list_any (λ other. bytes_eq other.0 k) found ≡ false
    at later None r f g e = cc
    at later (Some a) None f g e = cc
    at later (Some a) (Some rest) f g e =
        let differ : bytes_eq a.0 k ≡ false = ap (λ (x : List ℕ). bytes_eq x k) (attribute_parts m a f).1 ∙ below_differs k m.0 h.0 in
        ap (list_any (λ (other : Attribute). bytes_eq other.0 k)) (sym (some_is (a ∷ rest) found e))
        ∙ or_from (bytes_eq a.0 k) (list_any (λ other. bytes_eq other.0 k) rest) differ (later rest g)

pub attributes_good : (ms : Members) (found : List Attribute) → IsStrictlySortedBy text_cmp (keys_of ms) → each_of attribute_of ms ≡ Some found → are_attributes found ≡ true
unfolding IsStrictlySortedBy
attributes_good [] found h e = ap are_attributes (sym (some_is [] found e))
attributes_good (m ∷ ms) found h e = at (λ rest g. attributes_good ms rest h.1 g) (attribute_of m) (each_of attribute_of ms) refl refl e
  where
    at : ((rest : List Attribute) → each_of attribute_of ms ≡ Some rest → are_attributes rest ≡ true)
        → (o : Option Attribute) (r : Option (List Attribute)) → attribute_of m ≡ o → each_of attribute_of ms ≡ r
        → option_and_then (λ y. option_map (λ ys. y ∷ ys) r) o ≡ Some found → are_attributes found ≡ true
    at later None r f g e = cc
    at later (Some a) None f g e = cc
    at later (Some a) (Some rest) f g e =
        let parts = attribute_parts m a f in
        let apart : list_any (λ other. bytes_eq other.0 a.0) rest ≡ false = ap (λ (k : List ℕ). list_any (λ other. bytes_eq other.0 k) rest) parts.1 ∙ none_named m.0 ms rest h.0 g in
        ap are_attributes (sym (some_is (a ∷ rest) found e))
        ∙ three (is_attribute_name a.0) (list_any (λ other. bytes_eq other.0 a.0) rest) (are_attributes rest) parts.0 apart (later rest g)

-- ---- handlers

find_passes : {X : Type 0} (p : X → Bool) (xs : List X) (x : X) → find p xs ≡ Some x → p x ≡ true
find_passes p [] x e = cc
find_passes p (y ∷ ys) x e = at (find_passes p ys x) (p y) refl e
  where
    at : (find p ys ≡ Some x → p x ≡ true) → (b : Bool) → p y ≡ b → (if b then Some y else find p ys) ≡ Some x → p x ≡ true
    at later true f e = ap p (sym (some_is y x e)) ∙ f
    at later false f e = later e

name_is : (bytes : List ℕ) (k : EventKind) → kind_named bytes ≡ Some k → kind_name k ≡ bytes
unfolding kind_named
name_is bytes k e = (bytes_eq-Decides (kind_name k) bytes).0 (find_passes (λ k. bytes_eq (kind_name k) bytes) all_kinds k e)

by_number : (k : EventKind) → kind_name k ≡ slice_index_or (map kind_name all_kinds) (kind_number k) []
by_number PointerMove = refl
by_number PointerDown = refl
by_number PointerUp = refl
by_number Click = refl
by_number KeyDown = refl
by_number KeyUp = refl
by_number Input = refl
by_number Change = refl
by_number Focus = refl
by_number Blur = refl
by_number Submit = refl
by_number Reset = refl

kinds_differ : (k l : EventKind) (a b : List ℕ) → kind_name k ≡ encode_utf8_all a → kind_name l ≡ encode_utf8_all b → text_cmp a b ≡ Less → is_same_kind l k ≡ false
kinds_differ k l a b at_a at_b h = false_from_ne_true (is_same_kind l k) (λ same.
    let number : kind_number l ≡ kind_number k = (Decides-eqb (kind_number l) (kind_number k)).0 same in
    let names : kind_name l ≡ kind_name k = by_number l ∙ ap (λ n. slice_index_or (map kind_name all_kinds) n []) number ∙ sym (by_number k) in
    let bytes : encode_utf8_all b ≡ encode_utf8_all a = sym at_b ∙ names ∙ at_a in
    let at_same : slice_cmp nat_cmp (encode_utf8_all a) (encode_utf8_all a) ≡ Less = ap (slice_cmp nat_cmp (encode_utf8_all a)) (sym bytes) ∙ h in
    let itself : bytes_eq (encode_utf8_all a) (encode_utf8_all a) ≡ true = (bytes_eq-Decides (encode_utf8_all a) (encode_utf8_all a)).1 refl in
    let wrong : false ≡ true = sym (ap is_eq at_same) ∙ is_eq-slice_cmp (encode_utf8_all a) (encode_utf8_all a) ∙ itself in
    cc)

handler_name : (m : List ℕ × Json) (h : Handler) → handler_of m ≡ Some h → kind_name h.0 ≡ encode_utf8_all m.0
handler_name m h = at (kind_named (encode_utf8_all m.0)) (effects_in m.1) refl
  where
    at : (k : Option EventKind) (t : Option (List Effect)) → kind_named (encode_utf8_all m.0) ≡ k → option_and_then (λ kind. option_map (λ effects. (kind, effects)) t) k ≡ Some h
        → kind_name h.0 ≡ encode_utf8_all m.0
    at None t is e = cc
    at (Some k) None is e = cc
    at (Some k) (Some t) is e =
        let pair : (k, t) ≡ h = some_is (k, t) h e in
        ap (λ (p : Handler). kind_name p.0) (sym pair) ∙ name_is (encode_utf8_all m.0) k is

none_of_kind : (k : EventKind) (a : List ℕ) (ms : Members) (hs : List Handler) → kind_name k ≡ encode_utf8_all a → AllByRecursion (λ y. text_cmp a y ≡ Less) (keys_of ms)
    → each_of handler_of ms ≡ Some hs → list_any (λ other. is_same_kind other.0 k) hs ≡ false
none_of_kind k a [] hs n h e = ap (list_any (λ (other : Handler). is_same_kind other.0 k)) (sym (some_is [] hs e))
none_of_kind k a (m ∷ ms) hs n h e = at (λ rest g. none_of_kind k a ms rest n h.1 g) (handler_of m) (each_of handler_of ms) refl refl e
  where
    at : ((rest : List Handler) → each_of handler_of ms ≡ Some rest → list_any (λ other. is_same_kind other.0 k) rest ≡ false)
        → (o : Option Handler) (r : Option (List Handler)) → handler_of m ≡ o → each_of handler_of ms ≡ r
        → option_and_then (λ y. option_map (λ ys. y ∷ ys) r) o ≡ Some hs → list_any (λ other. is_same_kind other.0 k) hs ≡ false
    at later None r f g e = cc
    at later (Some x) None f g e = cc
    at later (Some x) (Some rest) f g e =
        ap (list_any (λ (other : Handler). is_same_kind other.0 k)) (sym (some_is (x ∷ rest) hs e))
        ∙ or_from (is_same_kind x.0 k) (list_any (λ other. is_same_kind other.0 k) rest) (kinds_differ k x.0 a m.0 n (handler_name m x f) h.0) (later rest g)

pub handlers_good : (ms : Members) (hs : List Handler) → IsStrictlySortedBy text_cmp (keys_of ms) → each_of handler_of ms ≡ Some hs → list_all (λ h. fit_at anywhere h.1) hs ≡ true → are_handlers hs ≡ true
unfolding IsStrictlySortedBy
handlers_good [] hs h e fit = ap are_handlers (sym (some_is [] hs e))
handlers_good (m ∷ ms) hs h e fit = at (λ rest g fit. handlers_good ms rest h.1 g fit) (handler_of m) (each_of handler_of ms) refl refl e fit
  where
    at : ((rest : List Handler) → each_of handler_of ms ≡ Some rest → list_all (λ h. fit_at anywhere h.1) rest ≡ true → are_handlers rest ≡ true)
        → (o : Option Handler) (r : Option (List Handler)) → handler_of m ≡ o → each_of handler_of ms ≡ r
        → option_and_then (λ y. option_map (λ ys. y ∷ ys) r) o ≡ Some hs → list_all (λ h. fit_at anywhere h.1) hs ≡ true → are_handlers hs ≡ true
    at later None r f g e fit = cc
    at later (Some x) None f g e fit = cc
    at later (Some x) (Some rest) f g e fit =
        let fits : (fit_at anywhere x.1 && list_all (λ h. fit_at anywhere h.1) rest) ≡ true = ap (list_all (λ (h : Handler). fit_at anywhere h.1)) (some_is (x ∷ rest) hs e) ∙ fit in
        ap are_handlers (sym (some_is (x ∷ rest) hs e))
        ∙ three (fit_at anywhere x.1) (list_any (λ other. is_same_kind other.0 x.0) rest) (are_handlers rest) (first_of (fit_at anywhere x.1) _ fits)
        (none_of_kind x.0 m.0 ms rest (handler_name m x f) h.0 g) (later rest g (second_of (fit_at anywhere x.1) _ fits))

-- ---- what reading them answers

pub attributes_kept : {E : Type 0} (ms : Members) (r : Result (Option (List Attribute)) E) → KeysRise ms → IfOk r (λ a. a ≡ each_of attribute_of ms) → IfOk r (λ a. IfSome a (λ a. are_attributes a ≡ true))
attributes_kept ms (Ok (Some read)) rise same = attributes_good ms read rise (sym same)
attributes_kept ms (Ok None) rise same = tt
attributes_kept ms (Err e) rise same = tt

pub handlers_kept : {E : Type 0} (ms : Members) (r : Result (Option (List Handler)) E) → KeysRise ms → IfOk r (λ hs. hs ≡ each_of handler_of ms) → IfOk r (λ hs. IfSome hs (λ hs. list_all (λ h. fit_at anywhere h.1) hs ≡ true))
    → IfOk r (λ hs. IfSome hs (λ hs. are_handlers hs ≡ true))
handlers_kept ms (Ok (Some read)) rise same fit = handlers_good ms read rise (sym same) fit
handlers_kept ms (Ok None) rise same fit = tt
handlers_kept ms (Err e) rise same fit = tt
