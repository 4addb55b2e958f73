-- A node once its fields are set, and the page with it.
use Rattle.std.proofs.Common.{◌≡◌, ℕ, ℤ, pos, negsuc, zero, suc, ◌+◌, ◌-◌, ◌^◌, ◌<◌, ◌≤◌, Bool, true, false, not, List, [], ◌∷◌, ◌++◌, Option, Some, None, Result, Ok, Err, length, drop, get_or, refl, sym, ap, ◌∙◌, subst, arith}
use Rattle.std.specs.Prelude.{◌&&◌, ◌||◌, if◌then◌else◌, is_none, slice_get, OnOk}
use Rattle.std.specs.List.{list_any}
use Rattle.std.proofs.lemmas.List.{at_drop_more, drop_all, length-map}
use Rattle.std.proofs.lemmas.Option.{slice_get_within}
use Rattle.page_tree.specs.Attributes.{changed_to}
use Rattle.page_tree.specs.DocumentState.{DocumentState}
use Rattle.page_tree.specs.Places.{shadow_of}
use Rattle.page_tree.specs.Rows.{Rows, IsTree, count, is_element, is_element_kind, change_at, with_content, with_attribute, element, plain, one_node, grown, hosting, max_nodes}
use Rattle.page_tree.proofs.NodeKinds.{kind_pushed_here, kind_changed}
use Rattle.page_tree.specs.declared.content.Content.{Content}
use Rattle.page_tree.specs.declared.content.Kind.{Kind}
use Rattle.page_tree.specs.declared.geometry.PixelBox.{PixelBox}
use Rattle.page_engine.specs.Nodes.{is_bare, has_none, is_zero, is_node, may_stand, has_fields, is_root_def, is_element_def, is_shadow_def, is_shadow_of, is_parent, is_host}
use Rattle.page_engine.specs.Opening.{bare_rows, content_of, kind_of, all_set, filled, attributed, placed, numbers_where, shadow_in, first_of}
use Rattle.page_engine.specs.declared.page_def.NodeDef.{NodeDef}
use Rattle.page_engine.specs.declared.page_def.NodeKind.{NodeKind}
use Rattle.page_engine.specs.declared.page_def.NodeKind.TheVariants.{Element, Chars, Shadow}
use Rattle.page_engine.proofs.BareRows.{bare_alone, bare_under, bare_hosting}
use Rattle.page_engine.proofs.Growth.{at_number}

-- ---- two changes of one node
change_twice : (f g : Content → Content) (n : ℕ) (xs : List Content) → change_at n g (change_at n f xs) ≡ change_at n (λ c. g (f c)) xs
change_twice f g n [] = refl
change_twice f g zero (x ∷ xs) = refl
change_twice f g (suc n) (x ∷ xs) = ap (λ cs. x ∷ cs) (change_twice f g n xs)

change_none : (n : ℕ) (xs : List Content) → change_at n (λ c. c) xs ≡ xs
change_none n [] = refl
change_none zero (x ∷ xs) = refl
change_none (suc n) (x ∷ xs) = ap (λ cs. x ∷ cs) (change_none n xs)

change_last : (f : Content → Content) (n : ℕ) (xs : List Content) (c : Content) → n ≡ length xs → change_at n f (xs ++ c ∷ []) ≡ xs ++ f c ∷ []
change_last f zero [] c at = refl
change_last f (suc n) [] c at = absurd (omega arith)
change_last f zero (x ∷ xs) c at = absurd (omega arith)
change_last f (suc n) (x ∷ xs) c at = ap (λ cs. x ∷ cs) (change_last f n xs c (omega arith))

pub content_twice : (rows : Rows) (n : ℕ) (f g : Content → Content) → with_content (with_content rows n f) n g ≡ with_content rows n (λ c. g (f c))
content_twice rows n f g = ap (λ (cs : List Content). let r : Rows = record rows { contents = cs } in r) (change_twice f g n rows.contents)

abbrev pub written : DocumentState → ℕ → (Content → Content) → DocumentState
written s n f = record s { rows = with_content s.rows n f }

pub written_twice : (a b c : DocumentState) (n : ℕ) (f g : Content → Content) → b ≡ written a n f → c ≡ written b n g → c ≡ written a n (λ x. g (f x))
written_twice a b c n f g first second =
    second ∙ ap (λ (s : DocumentState). written s n g) first ∙ ap (λ (r : Rows). let s : DocumentState = record a { rows = r } in s) (content_twice a.rows n f g)

pub kept : (a b : DocumentState) (n : ℕ) (f : Content → Content) → ((c : Content) → (f c).kind ≡ c.kind) → b ≡ written a n f → is_element a.rows n ≡ true → is_element b.rows n ≡ true
kept a b n f keeps is h = ap (λ (s : DocumentState). is_element s.rows n) is ∙ ap is_element_kind (kind_changed f keeps n a.rows.contents n) ∙ h

-- ---- attributes, one after another
pub attributes_step : (rows next : Rows) (n i : ℕ) (attrs : List (List ℕ × List ℕ)) (a : List ℕ × List ℕ) → i < length attrs → a ≡ get_or attrs i a → next ≡ with_attribute rows n a.0 (Some a.1) → attributed next n (drop (i + 1) attrs) ≡ attributed rows n (drop i attrs)
attributes_step rows next n i attrs a within read is =
    ap (λ (r : Rows). attributed r n (drop (i + 1) attrs)) is
    ∙ content_twice rows n (λ content. record content { attributes = changed_to a.0 (Some a.1) content.attributes }) (λ content. record content { attributes = all_set (drop (i + 1) attrs) content.attributes })
    ∙ ap (λ (b : List ℕ × List ℕ). attributed rows n (b ∷ drop (i + 1) attrs)) read
    ∙ sym (at_drop_more (λ (rest : List (List ℕ × List ℕ)). attributed rows n rest) attrs i a within)

pub attributes_done : (rows : Rows) (n i : ℕ) (attrs : List (List ℕ × List ℕ)) → length attrs ≤ i → attributed rows n (drop i attrs) ≡ rows
attributes_done rows n i attrs past = ap (attributed rows n) (drop_all i attrs past) ∙ ap (λ (cs : List Content). let r : Rows = record rows { contents = cs } in r) (change_none n rows.contents)

-- ---- an element that was added
pub added_element : (rows : Rows) (tag : List ℕ) (n : ℕ) → IsTree rows → n ≡ count rows → is_element (grown rows None (element tag)) n ≡ true
added_element rows tag n tree at = ap is_element_kind (kind_pushed_here rows.contents (element tag) n (omega (arith, tree.content_of_each)))

filled_element : (d : NodeDef) (tag : List ℕ) → d.kind ≡ Element tag → filled d (element tag) ≡ content_of d
filled_element d tag is = ap (λ (k : NodeKind). let c : Content = record (content_of d) { kind = kind_of k } in c) (sym is)

pub element_filled : (rows : Rows) (d : NodeDef) (tag : List ℕ) (n : ℕ) → IsTree rows → n ≡ count rows → d.kind ≡ Element tag → with_content (grown rows None (element tag)) n (filled d) ≡ grown rows None (content_of d)
element_filled rows d tag n tree at is =
    ap (λ (cs : List Content). let r : Rows = record (grown rows None (element tag)) { contents = cs } in r) (change_last (filled d) n rows.contents (element tag) (omega (arith, tree.content_of_each)))
    ∙ ap (grown rows None) (filled_element d tag is)

-- ---- the first node
same_none : (o : Option ℕ) → is_none o ≡ true → o ≡ None
same_none None e = refl
same_none (Some n) e = absurd (let f : false ≡ true = e in cc)

and_right : (b c : Bool) → (b && c) ≡ true → c ≡ true
and_right true c e = e
and_right false c e = absurd (let f : false ≡ true = e in cc)

and_left : (b c : Bool) → (b && c) ≡ true → b ≡ true
and_left true c e = refl
and_left false c e = e

pub root_rows : (d : NodeDef) (tag : List ℕ) → d.kind ≡ Element tag → is_root_def (Some d) ≡ true → with_content (one_node (element tag)) 0 (filled d) ≡ bare_rows (d ∷ [])
root_rows d tag is root =
    let up : d.up ≡ None = same_none d.up (and_right (is_element_def d.kind) (is_none d.up) root) in
    let plain_def : NodeDef = record d { kind = Element tag; up = None } in
    let same : plain_def ≡ d = ap (λ (k : NodeKind). let e : NodeDef = record d { kind = k; up = None } in e) (sym is) ∙ ap (λ (o : Option ℕ). let e : NodeDef = record d { up = o } in e) (sym up) in
    ap (λ (e : NodeDef). bare_rows (e ∷ [])) same

-- ---- where a node may stand
pub stands : (xs : List NodeDef) (d : NodeDef) → is_node xs d ≡ true → may_stand xs d.kind d.up ≡ true
stands xs d e = and_left (may_stand xs d.kind d.up) (has_fields d.kind d) e

parent_within : (xs : List NodeDef) (p : ℕ) (o : Option NodeDef) → slice_get xs p ≡ o → is_parent o ≡ true → p < length xs
parent_within xs p None is e = absurd (let f : false ≡ true = e in cc)
parent_within xs p (Some d) is e = slice_get_within xs p d is

plain_within : (xs : List NodeDef) (k : NodeKind) (p : ℕ) → is_shadow_def k ≡ false → may_stand xs k (Some p) ≡ true → p < length xs
plain_within xs (Element tag) p plain e = parent_within xs p (slice_get xs p) refl e
plain_within xs (Chars text) p plain e = parent_within xs p (slice_get xs p) refl e
plain_within xs Shadow p plain e = absurd (let f : true ≡ false = plain in cc)

pub placed_rows : (xs : List NodeDef) (d : NodeDef) (n last : ℕ) → IsTree (bare_rows xs) → n ≡ length xs → is_shadow_def d.kind ≡ false → is_node xs d ≡ true → length xs ≤ last
    → placed last (grown (bare_rows xs) None (content_of d)) n d.up ≡ bare_rows (xs ++ d ∷ [])
placed_rows xs d n last tree number plain is few = here d.up refl
  where
    here : (o : Option ℕ) → d.up ≡ o → placed last (grown (bare_rows xs) None (content_of d)) n o ≡ bare_rows (xs ++ d ∷ [])
    here None up = bare_alone xs d tree up plain
    here (Some p) up = bare_under xs d tree n p last number up plain (plain_within xs d.kind p plain (ap (may_stand xs d.kind) (sym up) ∙ stands xs d is)) few

-- ---- texts and shadow roots
fields : (kind : Kind) (attrs : List (List ℕ × List ℕ)) (pixels : Option PixelBox) (layer : ℤ) (hidden on : Bool) → (has_none attrs && (is_none pixels && (is_zero layer && (not hidden && on)))) ≡ true
    → let c : Content = record { kind = kind; attributes = all_set attrs []; pixels = pixels; layer = layer; hidden = hidden; value = []; checked = false } in c ≡ plain kind
fields kind [] None (pos zero) false on e = refl
fields kind (a ∷ rest) pixels layer hidden on e = absurd (let f : false ≡ true = e in cc)
fields kind [] (Some b) layer hidden on e = absurd (let f : false ≡ true = e in cc)
fields kind [] None (pos (suc n)) hidden on e = absurd (let f : false ≡ true = e in cc)
fields kind [] None (negsuc n) hidden on e = absurd (let f : false ≡ true = e in cc)
fields kind [] None (pos zero) true on e = absurd (let f : false ≡ true = e in cc)

pub bare_content : (xs : List NodeDef) (d : NodeDef) (kind : NodeKind) → d.kind ≡ kind → is_element_def kind ≡ false → is_node xs d ≡ true → content_of d ≡ plain (kind_of kind)
bare_content xs d kind is none e =
    fields (kind_of d.kind) d.attrs d.pixels d.layer d.hidden (has_none d.on) (bare kind is none (and_right (may_stand xs d.kind d.up) (has_fields d.kind d) e)) ∙ ap (λ (k : NodeKind). plain (kind_of k)) is
  where
    bare : (k : NodeKind) → d.kind ≡ k → is_element_def k ≡ false → has_fields d.kind d ≡ true → is_bare d ≡ true
    bare (Element tag) is none e = absurd (let f : true ≡ false = none in cc)
    bare (Chars text) is none e = ap (λ (k : NodeKind). has_fields k d) (sym is) ∙ e
    bare Shadow is none e = ap (λ (k : NodeKind). has_fields k d) (sym is) ∙ e

none_any : (test : NodeDef → Bool) (n : ℕ) (xs : List NodeDef) → list_any test xs ≡ false → numbers_where test n xs ≡ []
none_any test n [] e = refl
none_any test n (x ∷ xs) e = here (test x) (none_any test (suc n) xs) e
  where
    here : (b : Bool) → (list_any test xs ≡ false → numbers_where test (suc n) xs ≡ []) → (b || list_any test xs) ≡ false → (if b then n ∷ numbers_where test (suc n) xs else numbers_where test (suc n) xs) ≡ []
    here true rest f = absurd (let g : true ≡ false = f in cc)
    here false rest f = rest f

not_true : (b : Bool) → not b ≡ true → b ≡ false
not_true true e = absurd (let f : false ≡ true = e in cc)
not_true false e = refl

pub free_host : (xs : List NodeDef) (d : NodeDef) (host : ℕ) → d.kind ≡ Shadow → d.up ≡ Some host → is_node xs d ≡ true → numbers_where (is_shadow_of host) 0 xs ≡ []
free_host xs d host is up e =
    let stand : may_stand xs Shadow (Some host) ≡ true = ap (λ (k : NodeKind). may_stand xs k (Some host)) (sym is) ∙ ap (may_stand xs d.kind) (sym up) ∙ stands xs d e in
    none_any (is_shadow_of host) 0 xs (not_true (list_any (is_shadow_of host) xs) (and_right _ _ stand))

pub host_alone : (xs : List NodeDef) (host : ℕ) → host < length xs → numbers_where (is_shadow_of host) 0 xs ≡ [] → shadow_of (bare_rows xs).shadows host ≡ None
host_alone xs host within free = at_number (shadow_in xs) (length xs) host None within ∙ ap first_of free

host_known : (xs : List NodeDef) (host : ℕ) (o : Option NodeDef) → slice_get xs host ≡ o → is_host o ≡ true → host < length xs
host_known xs host None is e = absurd (let f : false ≡ true = e in cc)
host_known xs host (Some d) is e = slice_get_within xs host d is

pub host_within : (xs : List NodeDef) (d : NodeDef) (host : ℕ) → d.kind ≡ Shadow → d.up ≡ Some host → is_node xs d ≡ true → host < length xs
host_within xs d host is up e =
    let stand : may_stand xs Shadow (Some host) ≡ true = ap (λ (k : NodeKind). may_stand xs k (Some host)) (sym is) ∙ ap (may_stand xs d.kind) (sym up) ∙ stands xs d e in
    host_known xs host (slice_get xs host) refl (and_left _ _ stand)

-- ---- documents
abbrev pub document_rows : Rows → DocumentState
document_rows rows = record { rows = rows; spent = false }

abbrev pub with_new : DocumentState → Content → DocumentState
with_new s content = record s { rows = grown s.rows None content }

abbrev pub with_placed : DocumentState → ℕ → Option ℕ → DocumentState
with_placed s n up = record s { rows = placed (2 ^ 32 - 1) s.rows n up }

abbrev pub with_host : DocumentState → ℕ → DocumentState
with_host s host = record s { rows = hosting s.rows host }

pub same_document : (a b : DocumentState) → a.rows ≡ b.rows → a.spent ≡ b.spent → a ≡ b
same_document a b e f = λ i. record { rows = e i; spent = f i }

pub on_ok : {X E : Type 0} (r : Result X E) (P Q : Type 0) → (P → Q) → OnOk r P → OnOk r Q
on_ok (Ok x) P Q f h = f h
on_ok (Err e) P Q f h = tt

module _ (xs : List NodeDef) (d : NodeDef) (old : DocumentState) (before : old ≡ document_rows (bare_rows xs)) (tree : IsTree old.rows) (is : is_node xs d ≡ true) (few : length xs < max_nodes) where
  bare_tree : IsTree (bare_rows xs)
  bare_tree = subst (λ (s : DocumentState). IsTree s.rows) before tree

  pub placed_document : (mid new : DocumentState) (n : ℕ) (content : Content) → mid ≡ with_new old content → content ≡ content_of d → n ≡ count old.rows → is_shadow_def d.kind ≡ false → new ≡ with_placed mid n d.up → new ≡ document_rows (bare_rows (xs ++ d ∷ []))
  placed_document mid new n content grew same number plain put =
      let at : n ≡ length xs = number ∙ ap (λ (s : DocumentState). count s.rows) before ∙ length-map xs (λ (e : NodeDef). e.up) in
      put ∙ ap (λ (s : DocumentState). with_placed s n d.up) (grew ∙ ap (λ (s : DocumentState). with_new s content) before ∙ ap (with_new (document_rows (bare_rows xs))) same)
      ∙ ap document_rows (placed_rows xs d n (2 ^ 32 - 1) bare_tree at plain is (omega (arith, few)))

  pub hosted_document : (new : DocumentState) (host h : ℕ) → d.kind ≡ Shadow → d.up ≡ Some host → h ≡ host → new ≡ with_host old h → new ≡ document_rows (bare_rows (xs ++ d ∷ []))
  hosted_document new host h kind up same put =
      put ∙ ap (λ (s : DocumentState). with_host s h) before ∙ ap (with_host (document_rows (bare_rows xs))) same
      ∙ ap document_rows (bare_hosting xs d bare_tree host up (ap is_shadow_def kind) (bare_content xs d Shadow kind refl is) (host_within xs d host kind up is) (free_host xs d host kind up is))

  pub no_host_yet : (host h : ℕ) → d.kind ≡ Shadow → d.up ≡ Some host → h ≡ host → shadow_of old.rows.shadows h ≡ None
  no_host_yet host h kind up same =
      ap (λ (s : DocumentState). shadow_of s.rows.shadows h) before ∙ ap (shadow_of (bare_rows xs).shadows) same
      ∙ host_alone xs host (host_within xs d host kind up is) (free_host xs d host kind up is)
