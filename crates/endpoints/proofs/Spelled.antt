-- The path that is spelled from a route is read as that route.
use Rattle.std.proofs.Common.{◌≡◌, ◌≢◌, ℕ, suc, ◌+◌, ◌<◌, List, [], ◌∷◌, map, length, slice_get, Option, Some, None, is_some, Bool, true, false, cond, refl, sym, ap, ◌∙◌, subst, arith, ◌==◌, ltb, ◌&&◌, ◌||◌, not, codes, inl, inr, rules}
use Rattle.std.proofs.lemmas.Bool.{false≢true, and_parts, not-true}
use Rattle.std.proofs.lemmas.Bool.Decides.{nat_tests}
use Rattle.std.proofs.lemmas.List.Sums.{list_all-from_AllPass}
use Rattle.std.proofs.lemmas.List.Folds.{list_all-append}
use Rattle.std.specs.List.{join_with_byte, list_all, list_any, All, position, position_or_len, find}
use Rattle.std.specs.Option.{option_map, option_and_then, unwrap_or, IfSome}
use Rattle.std.specs.Str.{encode_utf8_all, IsUtf8}
use Rattle.std.specs.Cmp.Lexicographic.{bytes_decides}
use Rattle.percent_encoding.specs.declared.ascii_set.AsciiSet.{AsciiSet}
use Rattle.percent_encoding.specs.AsciiSet.{contains, should_percent_encode}
use Rattle.percent_encoding.specs.Percent.{percent_encode, percent_decode}
use Rattle.percent_encoding.proofs.PercentLemmas.{round_trip, IsByte, IsEscapeByte, All-percent_encode, percent_encode_nonempty}
use Rattle.percent_encoding.proofs.AsciiSetLemmas.{escaped_from_inside}
use Rattle.endpoints.specs.declared.command.Command.{Command}
use Rattle.endpoints.specs.declared.route.Route.{Route}
use Rattle.endpoints.specs.declared.table.TheConstants.{COMMANDS}
use Rattle.endpoints.specs.Table.{row_of}
use Rattle.endpoints.specs.Path.{segments, path_in, same_text, is_variable, is_some_text, fits_segment, fits, value_of}
use Rattle.endpoints.specs.Route.{pattern, asked, IsRouteOf}
use Rattle.endpoints.specs.Spelling.{bytes_in, written_in, spelled, spelling, HasVariable, HasVariables}
use Rattle.endpoints.proofs.Names.{law}

-- the set escapes `%`, `/` and `?`
pub record Escapes (set : AsciiSet) : Type 0 where
  pub percent : contains set 37 ≡ true
  pub slash : contains set 47 ≡ true
  pub query : contains set 63 ≡ true

abbrev no_query : List ℕ → Bool
no_query bs = list_all (λ b. not (b == 63)) bs

abbrev no_slash : List ℕ → Bool
no_slash bs = list_all (λ b. not (b == 47)) bs

-- neither a slash nor a `?`
abbrev is_plain : List ℕ → Bool
is_plain bs = no_slash bs && no_query bs

encode-without : (set : AsciiSet) (x : ℕ) → contains set x ≡ true → ((b : ℕ) → IsEscapeByte b → not (b == x) ≡ true) → (bs : List ℕ)
    → list_all (λ b. not (b == x)) (percent_encode set bs) ≡ true
encode-without set x inside escape bs =
    list_all-from_AllPass (λ b. not (b == x)) (percent_encode set bs) (All-percent_encode (λ b. not (b == x) ≡ true) set bs (λ b e. kept b e (b == x) refl) escape)
  where
    kept : (b : ℕ) → should_percent_encode set b ≡ false → (v : Bool) → (b == x) ≡ v → not v ≡ true
    kept b e false f = refl
    kept b e true f = let s : b ≡ x =
        grind (arith, nat_tests) in absurd (false≢true (sym e ∙ ap (should_percent_encode set) s ∙ escaped_from_inside set x inside))

encode-plain : (set : AsciiSet) → Escapes set → (bs : List ℕ) → is_plain (percent_encode set bs) ≡ true
encode-plain set h bs = rw (encode-without set 47 h.slash slash bs, encode-without set 63 h.query query bs) refl
  where
    slash : (b : ℕ) → IsEscapeByte b → not (b == 47) ≡ true
    slash b (inl e) = grind (arith, nat_tests)
    slash b (inr (inl e)) = grind (arith, nat_tests)
    slash b (inr (inr e)) = grind (arith, nat_tests)

    query : (b : ℕ) → IsEscapeByte b → not (b == 63) ≡ true
    query b (inl e) = grind (arith, nat_tests)
    query b (inr (inl e)) = grind (arith, nat_tests)
    query b (inr (inr e)) = grind (arith, nat_tests)

-- joined parts are parted again
before-none : (bs : List ℕ) → no_query bs ≡ true → path_in bs ≡ bs
before-none [] h = refl
before-none (b ∷ bs) h =
    let w = and_parts (not (b == 63)) (no_query bs) h in
    let e : 1 + position_or_len (λ c. c == 63) bs ≡ suc (position_or_len (λ c. c == 63) bs) = omega arith in
    rw (not-true (b == 63) w.0, e) (ap (λ x. b ∷ x) (before-none bs w.1))

no-query-join : (ss : List (List ℕ)) → list_all no_query ss ≡ true → no_query (join_with_byte 47 ss) ≡ true
no-query-join [] h = refl
no-query-join (s ∷ []) h = (and_parts (no_query s) true h).0
no-query-join (s ∷ t ∷ ss) h =
    let w = and_parts (no_query s) (list_all no_query (t ∷ ss)) h in
    list_all-append (λ b. not (b == 63)) s (47 ∷ join_with_byte 47 (t ∷ ss)) ∙ rw (w.0, no-query-join (t ∷ ss) w.1) refl

segments-join : (s : List ℕ) (ss : List (List ℕ)) → list_all no_slash (s ∷ ss) ≡ true → segments (join_with_byte 47 (s ∷ ss)) ≡ s ∷ ss
segments-join [] [] h = refl
segments-join [] (t ∷ ss) h = ap (λ x. [] ∷ x) (segments-join t ss h)
segments-join (b ∷ s) [] h =
    let w = and_parts (not (b == 47)) (no_slash s) (and_parts (no_slash (b ∷ s)) true h).0 in
    let f : (b == 47) ≡ false = not-true (b == 47) w.0 in
    rw (f, segments-join s [] (rw w.1 refl)) refl
segments-join (b ∷ s) (t ∷ ss) h =
    let u = and_parts (no_slash (b ∷ s)) (list_all no_slash (t ∷ ss)) h in
    let w = and_parts (not (b == 47)) (no_slash s) u.0 in
    let f : (b == 47) ≡ false = not-true (b == 47) w.0 in
    rw (f, segments-join s (t ∷ ss) (rw (w.1, u.1) refl)) refl

-- ---- what the parts become

-- a part fits what it becomes, and that is plain
abbrev is_good : (List ℕ → List ℕ) → List ℕ → Bool
is_good f p = fits_segment (is_variable p) p (f p) && is_plain (f p)

good-parts : (f : List ℕ → List ℕ) (ps : List (List ℕ)) → list_all (is_good f) ps ≡ true
    → (fits ps (map f ps) ≡ true) × (list_all no_slash (map f ps) ≡ true) × (list_all no_query (map f ps) ≡ true)
good-parts f [] h = (refl, refl, refl)
good-parts f (p ∷ ps) h =
    let w = and_parts (is_good f p) (list_all (is_good f) ps) h in
    let g = and_parts (fits_segment (is_variable p) p (f p)) (is_plain (f p)) w.0 in
    let n = and_parts (no_slash (f p)) (no_query (f p)) g.1 in
    let r = good-parts f ps w.1 in
    (rw (g.0, r.0) refl, rw (n.0, r.1) refl, rw (n.1, r.2) refl)

abbrev is_named : List ℕ → Command → Bool
is_named v c = list_any (λ p. same_text p v) (pattern c)

-- a variable is one that the pattern has, and a literal is plain
abbrev is_slot : Command → List ℕ → Bool
is_slot c p =
    cond (same_text p (codes "{session}")) (is_named (codes "{session}") c) (cond (same_text p (codes "{item}")) (is_named (codes "{item}") c) (is_named (codes "{name}") c))

abbrev part_ok : Command → List ℕ → Bool
part_ok c p = cond (is_variable p) (is_slot c p) (is_plain p)

abbrev parts_ok : Command → Bool
parts_ok c = list_all (part_ok c) (pattern c)

all_parts_ok : list_all parts_ok COMMANDS ≡ true
all_parts_ok = refl

-- the text of a variable of the pattern isn't empty, and stays so as it is escaped
encoded : (set : AsciiSet) (parts : List (List ℕ)) (v : List ℕ) (text : Option (List ℕ)) → HasVariable parts v text
    → list_any (λ p. same_text p v) parts ≡ true → is_some_text (percent_encode set (unwrap_or text [])) ≡ true
encoded set parts v None h e = absurd (false≢true (h.there ∙ e))
encoded set parts v (Some b) h e = shown _ (percent_encode_nonempty set b (long b h.nonempty))
  where
    long : (x : List ℕ) → x ≢ [] → 0 < length x
    long [] n = absurd (n refl)
    long (b ∷ x) n = omega arith

    shown : (x : List ℕ) → 0 < length x → is_some_text x ≡ true
    shown [] l = absurd (omega arith)
    shown (b ∷ x) l = refl

slot-encoded : (set : AsciiSet) (route : Route) (p : List ℕ) → HasVariables route → is_slot route.command p ≡ true
    → is_some_text (percent_encode set (unwrap_or (bytes_in route p) [])) ≡ true
slot-encoded set route p h e = by (same_text p (codes "{session}")) (same_text p (codes "{item}")) e
  where
    by : (u w : Bool)
        → cond u (is_named (codes "{session}") route.command) (cond w (is_named (codes "{item}") route.command) (is_named (codes "{name}") route.command)) ≡ true
        → is_some_text (percent_encode set (unwrap_or (cond u (option_map encode_utf8_all route.session) (cond w (option_map encode_utf8_all route.item) (option_map encode_utf8_all route.name))) [])) ≡ true
    by true w e = encoded set _ _ _ h.session e
    by false true e = encoded set _ _ _ h.item e
    by false false e = encoded set _ _ _ h.name e

part-good : (set : AsciiSet) → Escapes set → (route : Route) (p : List ℕ) → HasVariables route → part_ok route.command p ≡ true
    → is_good (spelled set route) p ≡ true
part-good set es route p h ok = by (is_variable p) ok
  where
    by : (v : Bool) → cond v (is_slot route.command p) (is_plain p) ≡ true
        → (fits_segment v p (written_in v set p (unwrap_or (bytes_in route p) [])) && is_plain (written_in v set p (unwrap_or (bytes_in route p) []))) ≡ true
    by true e = rw (slot-encoded set route p h e, encode-plain set es _) refl
    by false e = let s : same_text p p ≡ true = (bytes_decides p p).1 refl in rw (s, e) refl

all-good : (set : AsciiSet) → Escapes set → (route : Route) → HasVariables route → (ps : List (List ℕ)) → list_all (part_ok route.command) ps ≡ true
    → list_all (is_good (spelled set route)) ps ≡ true
all-good set es route h [] ok = refl
all-good set es route h (p ∷ ps) ok =
    let w = and_parts (part_ok route.command p) (list_all (part_ok route.command) ps) ok in
    rw (part-good set es route p h w.0, all-good set es route h ps w.1) refl

-- ---- what the parts stand for

-- what the first part that passes becomes
at_first : (test : List ℕ → Bool) (f : List ℕ → List ℕ) (ps : List (List ℕ))
    → option_and_then (λ i. slice_get (map f ps) i) (position test ps) ≡ option_map f (find test ps)
at_first test f [] = refl
at_first test f (p ∷ ps) = by (test p) (at_first test f ps)
  where
    m : ℕ
    m = position_or_len test ps

    on : (w : Bool)
        → option_and_then (λ i. slice_get (f p ∷ map f ps) i) (cond w (Some (suc m)) None) ≡ option_and_then (λ i. slice_get (map f ps) i) (cond w (Some m) None)
    on true = refl
    on false = refl

    by : (v : Bool) → option_and_then (λ i. slice_get (map f ps) i) (cond (ltb m (length ps)) (Some m) None) ≡ option_map f (find test ps)
        → option_and_then (λ i. slice_get (f p ∷ map f ps) i) (cond (ltb (cond (not v) (1 + m) 0) (suc (length ps))) (Some (cond (not v) (1 + m) 0)) None) ≡ option_map f (cond v (Some p) (find test ps))
    by true ih = let e : ltb 0 (suc (length ps)) ≡ true = grind (arith, nat_tests) in rw e refl
    by false ih =
        let one : 1 + m ≡ suc m = omega arith in
        let e : ltb (suc m) (suc (length ps)) ≡ ltb m (length ps) = grind (arith, nat_tests) in
        rw (one, e) (on (ltb m (length ps)) ∙ ih)

-- whether one passes, and that it does
found : (test : List ℕ → Bool) (ps : List (List ℕ)) → (list_any test ps ≡ is_some (find test ps)) × IfSome (find test ps) (λ p. test p ≡ true)
found test [] = (refl, tt)
found test (p ∷ ps) = by (test p) refl (found test ps)
  where
    by : (v : Bool) → test p ≡ v → (list_any test ps ≡ is_some (find test ps)) × IfSome (find test ps) (λ q. test q ≡ true)
        → ((v || list_any test ps) ≡ is_some (cond v (Some p) (find test ps))) × IfSome (cond v (Some p) (find test ps)) (λ q. test q ≡ true)
    by true e ih = (refl, e)
    by false e ih = ih

-- the bytes of a text, in UTF-8
abbrev pub IsText : Option (List ℕ) → Type 0
IsText text = IfSome text (λ b. All IsByte b × IsUtf8 b)

-- the path's value of a variable is the route's
value_spelled : (set : AsciiSet) → Escapes set → (route : Route) (v : List ℕ) (parts : List (List ℕ)) → is_variable v ≡ true
    → HasVariable parts v (bytes_in route v) → IsText (bytes_in route v)
    → bytes_in route v ≡ value_of v parts (map (spelled set route) parts)
value_spelled set h route v parts w has text =
    let s : spelled set route v ≡ percent_encode set (unwrap_or (bytes_in route v) []) = ap (λ x. written_in x set v (unwrap_or (bytes_in route v) [])) w in
    let f = found test parts in
    by (find test parts) (bytes_in route v) s text (has.there ∙ f.0) f.1 ∙ sym (ap (option_map percent_decode) (at_first test (spelled set route) parts))
  where
    test : List ℕ → Bool
    test = λ p. same_text p v

    by : (o t : Option (List ℕ)) → spelled set route v ≡ percent_encode set (unwrap_or t []) → IsText t → is_some t ≡ is_some o
        → IfSome o (λ p. test p ≡ true) → t ≡ option_map percent_decode (option_map (spelled set route) o)
    by None None s x e g = refl
    by None (Some b) s x e g = cc
    by (Some p) None s x e g = cc
    by (Some p) (Some b) s x e g = ap Some (sym (ap percent_decode (ap (spelled set route) ((bytes_decides p v).0 g) ∙ s) ∙ round_trip set b h.percent x.0))

pub record HasTextBytes (route : Route) : Type 0 where
  pub session : IsText (option_map encode_utf8_all route.session)
  pub item : IsText (option_map encode_utf8_all route.item)
  pub name : IsText (option_map encode_utf8_all route.name)

utf8-of : (text : Option (List ℕ)) → IsText text → IfSome text IsUtf8
utf8-of None h = tt
utf8-of (Some b) h = h.1

asked-parts : (f : List ℕ → List ℕ) (ps : List (List ℕ)) → list_all no_slash (map f ps) ≡ true → list_all no_query (map f ps) ≡ true → (0 < length ps)
    → segments (path_in (join_with_byte 47 (map f ps))) ≡ map f ps
asked-parts f [] g h l = absurd (omega arith)
asked-parts f (p ∷ ps) g h l = rw (before-none (join_with_byte 47 (map f (p ∷ ps))) (no-query-join (map f (p ∷ ps)) h)) (segments-join (f p) (map f ps) g)

some-parts : (c : Command) → 0 < length (pattern c)
some-parts c = search rules

pub spelled_route : (set : AsciiSet) → Escapes set → (route : Route) → HasVariables route → HasTextBytes route
    → IsRouteOf (row_of route.command).method (spelling set route) route
spelled_route set es route h texts =
    let c = route.command in
    let f = spelled set route in
    let good = good-parts f (pattern c) (all-good set es route h (pattern c) (law parts_ok all_parts_ok c)) in
    let e : asked (spelling set route) ≡ map f (pattern c) = asked-parts f (pattern c) good.1 good.2 (some-parts c) in
    let session =
    value_spelled set es route (codes "{session}") (pattern c) refl h.session texts.session ∙ ap (value_of (codes "{session}") (pattern c)) (sym e) in
    let item = value_spelled set es route (codes "{item}") (pattern c) refl h.item texts.item ∙ ap (value_of (codes "{item}") (pattern c)) (sym e) in
    let name = value_spelled set es route (codes "{name}") (pattern c) refl h.name texts.name ∙ ap (value_of (codes "{name}") (pattern c)) (sym e) in
    record {
      method_is = refl;
      path_fits = ap (fits (pattern c)) e ∙ good.0;
      texts = record {
        session = subst (λ o. IfSome o IsUtf8) session (utf8-of _ texts.session);
        item = subst (λ o. IfSome o IsUtf8) item (utf8-of _ texts.item);
        name = subst (λ o. IfSome o IsUtf8) name (utf8-of _ texts.name);
      };
      session = session;
      item = item;
      name = name;
    }

pub text-of : (text : Option (List ℕ)) (bs : List ℕ) → bs ≡ unwrap_or text [] → All IsByte bs → IsUtf8 bs → IsText text
text-of None bs e small utf8 = tt
text-of (Some b) bs e small utf8 = (subst (All IsByte) e small, subst IsUtf8 e utf8)
