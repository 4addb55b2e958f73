use Rattle.std.proofs.Common.{◌≡◌, ◌∙◌, ◌++◌, ◌∷◌, [], ℕ, Bool, true, false, cond, List, length, take, map, sym, ap, ap₂, subst, refl, add-one, lit<, arith, ◌≤◌, codes}
use Rattle.std.specs.Borrow.{Bor}
use Rattle.std.specs.List.{join_with_byte}
use Rattle.std.specs.Option.{option_map, unwrap_or}
use Rattle.std.specs.Str.{encode_utf8_all}
use Rattle.std.proofs.lemmas.List.{take_all}
use Rattle.std.proofs.lemmas.Result.{IfOk-weaker}
use Rattle.std.proofs.lemmas.Iterator.Consumers.{map_from_collect}
use Rattle.std.proofs.lemmas.Iterator.Splits.{YieldsList-from_str_split}
use Rattle.endpoints.specs.declared.path.TheConstants.{SEGMENT}
use Rattle.endpoints.specs.declared.route.Route.{Route}
use Rattle.endpoints.specs.Table.{row_of}
use Rattle.endpoints.specs.Path.{segments, same_text}
use Rattle.endpoints.specs.Route.{IsRouteOf}
use Rattle.endpoints.specs.Spelling.{bytes_in, written, spelled, spelling}
use Rattle.endpoints.proofs.Joined.{after_slash, grown}
use Rattle.endpoints.proofs.Spelled.{Escapes, HasTextBytes, text-of, spelled_route}
use Rattle.endpoints.proofs.path.path_of.Goals as goal

abbrev part_of : Route → Bor (List ℕ) → List ℕ
part_of route part = spelled SEGMENT route part.now

map-now : (route : Route) (xs : List (Bor (List ℕ))) → map (part_of route) xs ≡ map (spelled SEGMENT route) (map (λ x. x.now) xs)
map-now route [] = refl
map-now route (x ∷ xs) = ap (λ ys. part_of route x ∷ ys) (map-now route xs)

-- the text that was chosen for a part is that of the route
text_is : (route : Route) (part session item name : List ℕ) → session ≡ unwrap_or (option_map encode_utf8_all route.session) []
    → item ≡ unwrap_or (option_map encode_utf8_all route.item) []
    → name ≡ unwrap_or (option_map encode_utf8_all route.name) []
    → cond (same_text part (codes "{session}")) session (cond (same_text part (codes "{item}")) item name) ≡ unwrap_or (bytes_in route part) []
text_is route part session item name s i n = by (same_text part (codes "{session}")) (same_text part (codes "{item}"))
  where
    by : (u w : Bool) → cond u session (cond w item name)
        ≡ unwrap_or (cond u (option_map encode_utf8_all route.session) (cond w (option_map encode_utf8_all route.item) (option_map encode_utf8_all route.name))) []
    by true w = s
    by false true = i
    by false false = n

-- all parts were written
all_written : (route : Route) (items : List (Bor (List ℕ))) (i : ℕ) (path pattern : List ℕ) → length items ≤ i
    → path ≡ join_with_byte 47 (map (part_of route) (take i items))
    → map (λ x. x.now) items ≡ segments pattern → pattern ≡ (row_of route.command).path → path ≡ spelling SEGMENT route
all_written route items i path pattern l written parts e =
    written ∙ ap (λ xs. join_with_byte 47 (map (part_of route) xs)) (take_all i items l) ∙ ap (join_with_byte 47) (map-now route items) ∙
    ap (λ ps. join_with_byte 47 (map (spelled SEGMENT route) ps)) (parts ∙ ap segments e)

pub loop-i-preserved : goal.loop-i-preserved
loop-i-preserved c =
    let text =
    c.text_for.ensures ∙
    text_is c.args.route.now c.index-part.result.now.now _ _ _ c.text_of-session.ensures.is c.text_of-item.ensures.is c.text_of-name.ensures.is in
    let slash = c.in_ok-put_slash.ensures ∙ ap (after_slash c.loop-i.i) c.loop-i.invariant in
    let put = c.in_ok-put_part.ensures ∙ ap₂ (λ x t. x ++ written SEGMENT c.index-part.result.now.now t) slash text in
    rw add-one (put ∙ grown (part_of c.args.route.now) c.in_ok-parts.parts.items c.loop-i.i c.index-part.result.now (omega arith) c.index-part.ensures)

pub returns-clause-spelled : goal.returns-clause-spelled
returns-clause-spelled c =
    let collected =
    map_from_collect c.collect.result c.collect.ensures.ran (YieldsList-from_str_split 47 c.pattern_of.result.now (lit< tt) c.split.ensures.text c.split.ensures.has_more c.split.ensures.pattern) in
    let parts = rw c.in_ok-parts.was at collected in
    let whole = all_written c.args.route.now c.in_ok-parts.parts.items c.loop-i.i _ _ (omega arith) c.loop-i.invariant parts c.pattern_of.ensures in
    IfOk-weaker c.of.result _ _ (λ t e. e ∙ c.as_str.ensures.value ∙ whole) c.of.ensures.bytes

pub returns-clause-read : goal.returns-clause-read
returns-clause-read c =
    let route = c.args.route.now in
    let texts : HasTextBytes route = record {
      session = text-of _ _ c.text_of-session.ensures.is c.text_of-session.ensures.bytes c.text_of-session.utf8;
      item = text-of _ _ c.text_of-item.ensures.is c.text_of-item.ensures.bytes c.text_of-item.utf8;
      name = text-of _ _ c.text_of-name.ensures.is c.text_of-name.ensures.bytes c.text_of-name.utf8;
    } in
    let escapes : Escapes SEGMENT = record { percent = refl; slash = refl; query = refl } in
    let back = spelled_route SEGMENT escapes route c.requires texts in
    IfOk-weaker c.of.result _ _ (λ t e. subst (λ target. IsRouteOf (row_of route.command).method target route) (sym e) back) (returns-clause-spelled c)
