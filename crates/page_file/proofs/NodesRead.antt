-- Nodes that are read one by one keep the rules, and what is kept beside them.
use Rattle.std.proofs.Common.{◌≡◌, ℕ, zero, suc, ◌+◌, ◌<◌, ◌≤◌, Bool, true, false, ◌&&◌, ◌||◌, not, List, [], ◌∷◌, ◌++◌, Option, Some, None, Ok, Err, length, take, drop, get_or, refl, sym, ap, subst, ◌∙◌, arith, tests, inl, inr, length-append}
use Rattle.std.specs.Prelude.{IfSome, is_none, slice_get, slice_index_or, nat_le, if◌then◌else◌}
use Rattle.std.proofs.lemmas.Bool.{cases_lt, and_from}
use Rattle.std.proofs.lemmas.List.{take-append-le, take_at}
use Rattle.std.proofs.lemmas.List.Folds.{list_any-append}
use Rattle.std.proofs.lemmas.Option.{slice_get_within}
use Rattle.std.specs.List.{list_any}
use Rattle.page_engine.specs.Nodes.{AreNodes, is_node, is_root_def, is_zero, is_bare, has_fields, may_stand, are_handlers, are_attributes, is_shadow_of, has_none}
use Rattle.page_engine.specs.Fitting.{is_box_or_none, is_layer}
use Rattle.page_engine.specs.Names.{is_tag}
use Rattle.page_engine.specs.declared.page_def.NodeDef.{NodeDef}
use Rattle.page_engine.specs.declared.page_def.NodeKind.{NodeKind}
use Rattle.page_engine.specs.declared.page_def.NodeKind.TheVariants.{Element, Chars, Shadow}
use Rattle.page_file.proofs.Depths.{up_within, shallow_all}
use Rattle.page_file.proofs.Tests.{first_of, second_of}
use Rattle.page_file.proofs.Tests.{some_is}
use Rattle.page_file.proofs.Rows.{done, ok_is, went_on, was_there, was_kept, rows_keep, rows_length, row_more}
use Rattle.page_file.specs.Members.{Members, object_of}
use Rattle.page_file.specs.NodeRows.{starts, is_good, is_deep, depth_after, depth_in, with_handlers, node_after, next_node, AreFlags, AreStanding, AreDepths, IsNext}
use Rattle.page_file.specs.NodeValues.{has_up, Handler, node_in, handlers_of}
use Rattle.page_file.specs.Rows.{if_ok, or_fault, keep, rows, rows_after}
use Rattle.page_file.specs.declared.why.Why.{Why}
use Rattle.page_file.specs.declared.why.Why.TheVariants as why
use Rattle.page_tree.specs.Rows.{max_nodes}
use Rattle.wd_json.specs.declared.value.Json.{Json}

-- ---- a node with its handlers keeps the rules where the node without them does

pub bare_with : (d : NodeDef) → is_bare d ≡ true → is_bare (with_handlers d []) ≡ true
bare_with d h =
    let a = has_none d.attrs in
    let b = is_none d.pixels in
    let z = is_zero d.layer in
    let v = not d.hidden in
    let r = has_none d.on in
    let after_a = second_of a (b && (z && (v && r))) h in
    let after_b = second_of b (z && (v && r)) after_a in
    let after_z = second_of z (v && r) after_b in
    and_from a (b && (z && (v && true))) (first_of a (b && (z && (v && r))) h)
    (and_from b (z && (v && true)) (first_of b (z && (v && r)) after_a)
    (and_from z (v && true) (first_of z (v && r) after_b) (and_from v true (first_of v r after_z) refl)))

pub element_with : (tag : List ℕ) (d : NodeDef) (on : List Handler) → has_fields (Element tag) d ≡ true → are_handlers on ≡ true → has_fields (Element tag) (with_handlers d on) ≡ true
element_with tag d on h good =
    let t = is_tag tag in
    let a = are_attributes d.attrs in
    let b = is_box_or_none d.pixels in
    let l = is_layer d.layer in
    let r = are_handlers d.on in
    let after_t = second_of t (a && (b && (l && r))) h in
    let after_a = second_of a (b && (l && r)) after_t in
    let after_b = second_of b (l && r) after_a in
    and_from t (a && (b && (l && are_handlers on))) (first_of t (a && (b && (l && r))) h)
    (and_from a (b && (l && are_handlers on)) (first_of a (b && (l && r)) after_t)
    (and_from b (l && are_handlers on) (first_of b (l && r) after_a) (and_from l (are_handlers on) (first_of l r after_b) good)))

fields_with : (kind : NodeKind) (ms : Members) (d : NodeDef) (on : List Handler) → handlers_of kind ms ≡ Some on → has_fields kind d ≡ true → are_handlers on ≡ true → has_fields kind (with_handlers d on) ≡ true
fields_with (Element tag) ms d on at h good = element_with tag d on h good
fields_with (Chars text) ms d on at h good = ap (λ (hs : List Handler). is_bare (with_handlers d hs)) (sym (some_is [] on at)) ∙ bare_with d h
fields_with Shadow ms d on at h good = ap (λ (hs : List Handler). is_bare (with_handlers d hs)) (sym (some_is [] on at)) ∙ bare_with d h

-- ---- one node more

-- what is known of a node that may come after these
pub record IsGood (defs : List NodeDef) (d : NodeDef) : Type 0 where
  pub root : 0 ≡ length defs → is_root_def (Some d) ≡ true
  pub lawful : is_node defs d ≡ true
  pub shallow : is_deep defs d ≡ false
  pub few : length defs < 50000

root_first : (defs : List NodeDef) (ms : Members) (d : NodeDef) → starts defs ms d ≡ true → 0 ≡ length defs → is_root_def (Some d) ≡ true
root_first [] ms d h e = second_of (not (has_up ms)) (is_root_def (Some d)) h
root_first (x ∷ defs) ms d h e = absurd (omega (arith, e))

not_many : (n : ℕ) → nat_le max_nodes n ≡ false → n < 50000
not_many n h = grind (arith, tests)

placed : (defs : List NodeDef) (ms : Members) (d : NodeDef) (depth : ℕ) → depth_in defs ms d ≡ Ok depth → IsGood defs d
placed defs ms d depth = at (is_good defs ms d) (is_deep defs d) (nat_le max_nodes (length defs)) refl refl refl
  where
    at : (good deep many : Bool) → is_good defs ms d ≡ good → is_deep defs d ≡ deep → nat_le max_nodes (length defs) ≡ many
        → (if not good then Err why.Node else (if deep then Err why.Depth else (if many then Err why.Nodes else done Why (depth_after defs d.up)))) ≡ Ok depth → IsGood defs d
    at false deep many is js ks e = cc
    at true true many is js ks e = cc
    at true false true is js ks e = cc
    at true false false is js ks e = record {
      root = root_first defs ms d (first_of (starts defs ms d) (is_node defs d) is);
      lawful = second_of (starts defs ms d) (is_node defs d) is;
      shallow = js;
      few = not_many (length defs) ks;
    }

pub next_good : (defs : List NodeDef) (v : Json) (d : NodeDef) → next_node defs v ≡ Ok d → IsGood defs d
next_good defs v d e =
    let object = went_on (node_after defs) (or_fault why.Node (object_of v)) d e in
    let ms : Members = object.0 in
    let finish = λ (p : NodeDef) (on : List Handler). done Why (with_handlers p on) in
    let plain = went_on (λ (p : NodeDef). if_ok (λ (depth : ℕ). if_ok (finish p) (or_fault why.Effect (keep are_handlers (handlers_of p.kind ms)))) (depth_in defs ms p)) (or_fault why.Node (node_in ms)) d object.2 in
    let p : NodeDef = plain.0 in
    let level = went_on (λ (depth : ℕ). if_ok (finish p) (or_fault why.Effect (keep are_handlers (handlers_of p.kind ms)))) (depth_in defs ms p) d plain.2 in
    let found = went_on (finish p) (or_fault why.Effect (keep are_handlers (handlers_of p.kind ms))) d level.2 in
    let on : List Handler = found.0 in
    let kept = was_kept are_handlers (handlers_of p.kind ms) on (was_there why.Effect (keep are_handlers (handlers_of p.kind ms)) on found.1) in
    let good = placed defs ms p level.0 level.1 in
    let stands = may_stand defs p.kind p.up in
    subst (IsGood defs) (ok_is (with_handlers p on) d found.2) (record {
      root = good.root;
      lawful = and_from stands (has_fields p.kind (with_handlers p on)) (first_of stands (has_fields p.kind p) good.lawful)
          (fields_with p.kind ms p on kept.0 (second_of stands (has_fields p.kind p) good.lawful) kept.1);
      shallow = good.shallow;
      few = good.few;
    })

-- ---- the nodes before it, and one more

grown_get : {X : Type 0} (defs : List X) (d : X) (n : ℕ) → n < length defs → slice_get (defs ++ d ∷ []) n ≡ slice_get defs n
grown_get [] d n h = absurd (omega arith)
grown_get (x ∷ defs) d zero h = refl
grown_get (x ∷ defs) d (suc n) h = grown_get defs d n (omega arith)

grown_here : (defs : List NodeDef) (d e : NodeDef) (n : ℕ) → slice_get (defs ++ d ∷ []) n ≡ Some e → length defs ≤ n → (n ≡ length defs) × (d ≡ e)
grown_here [] d e zero at h = (refl, some_is d e at)
grown_here [] d e (suc n) at h = cc
grown_here (x ∷ defs) d e zero at h = absurd (omega arith)
grown_here (x ∷ defs) d e (suc n) at h =
    let rest = grown_here defs d e n at (omega arith) in
    (ap suc rest.0, rest.1)

-- what is so of each node by those before it is so with one node more
grow : (P : ℕ → List NodeDef → NodeDef → Type 0) (defs : List NodeDef) (d : NodeDef)
    → ((n : ℕ) (e : NodeDef) → slice_get defs n ≡ Some e → P n (take n defs) e) → P (length defs) defs d
    → (n : ℕ) (e : NodeDef) → slice_get (defs ++ d ∷ []) n ≡ Some e → P n (take n (defs ++ d ∷ [])) e
grow P defs d old new n e at = elim (cases_lt n (length defs)) [
  | inl within ↦ subst (λ (xs : List NodeDef). P n xs e) (sym (take-append-le n defs (d ∷ []) (omega arith))) (old n e (sym (grown_get defs d n within) ∙ at))
  | inr past ↦
      let here = grown_here defs d e n at past in
      subst (λ (xs : List NodeDef). P n xs e) (sym (take_at defs (d ∷ []) n (sym here.0)))
      (subst (λ (k : ℕ). P k defs e) (sym here.0) (subst (λ (x : NodeDef). P (length defs) defs x) here.1 new))
]

get_end : (xs : List ℕ) (x n : ℕ) → n ≡ length xs → slice_get (xs ++ x ∷ []) n ≡ Some x
get_end [] x n h = ap (λ k. slice_get (x ∷ []) k) h
get_end (y ∷ xs) x zero h = absurd (omega arith)
get_end (y ∷ xs) x (suc n) h = get_end xs x n (omega arith)

pub standing_more : (defs : List NodeDef) (d : NodeDef) → AreStanding defs → IsGood defs d → AreStanding (defs ++ d ∷ [])
standing_more defs d old good = record {
  few = omega (arith, length-append defs (d ∷ []), good.few);
  root = λ some. first_root defs d old.root good.root;
  each = grow (λ n earlier e. is_node earlier e ≡ true) defs d old.each good.lawful;
  shallow = grow (λ n earlier e. is_deep earlier e ≡ false) defs d old.shallow good.shallow;
}
  where
    first_root : (defs : List NodeDef) (d : NodeDef) → (0 < length defs → is_root_def (slice_get defs 0) ≡ true) → (0 ≡ length defs → is_root_def (Some d) ≡ true) → is_root_def (slice_get (defs ++ d ∷ []) 0) ≡ true
    first_root [] d was is = is refl
    first_root (x ∷ defs) d was is = was (omega arith)

pub none_standing : AreStanding []
none_standing = record { few = omega arith; root = λ some. absurd (omega (arith, some)); each = λ n d at. cc; shallow = λ n d at. cc }

-- the nodes that values spell are lawful
pub nodes_lawful : (values : List Json) (defs : List NodeDef) → rows next_node values ≡ Ok defs → 0 < length values → AreNodes defs
nodes_lawful values defs e some =
    let stand = rows_keep next_node AreStanding (λ earlier v d old is. standing_more earlier d old (next_good earlier v d is)) values [] defs none_standing e in
    record { few = stand.few; root = stand.root (omega (arith, rows_length next_node values [] defs e, some)); each = stand.each; shallow = shallow_all defs stand.each stand.shallow }

pub flags_more : (defs : List NodeDef) (flags news : List Bool) (d : NodeDef) → AreFlags defs flags → length defs < length flags → length news ≡ length flags
    → ((n : ℕ) → n < length flags → slice_index_or news n false ≡ (slice_index_or flags n false || is_shadow_of n d)) → AreFlags (defs ++ d ∷ []) news
flags_more defs flags news d old room same marks = record {
  room = omega (arith, length-append defs (d ∷ []));
  each = λ n h. let within : n < length flags = omega arith in
      marks n within ∙ ap (λ b. b || is_shadow_of n d) (old.each n within)
      ∙ ap (λ b. list_any (is_shadow_of n) defs || b) (sym (or_false (is_shadow_of n d)))
      ∙ sym (list_any-append (is_shadow_of n) defs (d ∷ []));
}
  where
    or_false : (b : Bool) → (b || false) ≡ b
    or_false true = refl
    or_false false = refl

-- what a loop over the values keeps
pub record AreRead (values : List Json) (i : ℕ) (ds : List NodeDef) (levels : List ℕ) (marks : List Bool) : Type 0 where
  pub read : rows next_node values ≡ rows_after next_node ds (drop i values)
  pub count : length ds ≡ i
  pub room : length marks ≡ length values
  pub flags : AreFlags ds marks
  pub depths : AreDepths ds levels

pub read_more : (values : List Json) (i : ℕ) (v : Json) (defs : List NodeDef) (depths : List ℕ) (flags news : List Bool) (d : NodeDef) (level : ℕ)
    → AreRead values i defs depths flags → i < length values → v ≡ get_or values i v → IsNext defs v d level → length news ≡ length flags
    → ((n : ℕ) → n < length flags → slice_index_or news n false ≡ (slice_index_or flags n false || is_shadow_of n d))
    → AreRead values (i + 1) (defs ++ d ∷ []) (depths ++ level ∷ []) news
read_more values i v defs depths flags news d level old within is next same marks = record {
  read = row_more next_node values i defs old.read v within is d next.spelled;
  count = length-append defs (d ∷ []) ∙ ap (λ n. n + 1) old.count;
  room = same ∙ old.room;
  flags = flags_more defs flags news d old.flags (omega (arith, old.room, old.count)) same marks;
  depths = record {
    stand = standing_more defs d old.depths.stand (next_good defs v d next.spelled);
    many = length-append depths (level ∷ []) ∙ ap (λ n. n + 1) old.depths.many ∙ sym (length-append defs (d ∷ []));
    each = grow (λ n earlier e. slice_get (depths ++ level ∷ []) n ≡ Some (depth_after earlier e.up)) defs d
        (λ n e at. grown_get depths level n (omega (arith, old.depths.many, slice_get_within defs n e at)) ∙ old.depths.each n e at)
        (get_end depths level (length defs) (sym old.depths.many) ∙ ap (λ k. Some k) next.deep);
  };
}

-- the host of a shadow root is there to be marked
pub up_marked : (values : List Json) (i : ℕ) (defs : List NodeDef) (depths : List ℕ) (flags : List Bool) (v : Json) (d : NodeDef) (level : ℕ) → AreRead values i defs depths flags → IsNext defs v d level
    → (o : Option ℕ) → o ≡ d.up → IfSome o (λ up. up < length flags)
up_marked values i defs depths flags v d level old next None e = tt
up_marked values i defs depths flags v d level old next (Some up) e =
    let good = next_good defs v d next.spelled in
    let low : up < length defs = up_within defs d up good.lawful (sym e) in
    omega (arith, old.flags.room)
