-- What keeps the rows of a document a tree.
use Rattle.std.proofs.Common.{◌≡◌, ◌≢◌, ℕ, zero, suc, ◌<◌, ◌≤◌, Bool, true, false, cond, List, [], ◌∷◌, ◌++◌, Option, Some, None, length, map, set, eq-eqb, refl, sym, ap, ◌∙◌, arith, true≢false, inl, inr, ◌⊎◌, length-set, length-append}
use Rattle.std.specs.Prelude.{nat_le, IfSome}
use Rattle.std.proofs.lemmas.List.{length-map, get_or-set_same, get_or-set_other, get_or_past, ext_get_or}
use Rattle.std.proofs.lemmas.Bool.{cases_eq, cases_lt}
use Rattle.page_tree.specs.Places.{up_of, kids_of, shadow_of, times, points_to, onwards, chain, depth, max_depth, all_shallow, without, put_among, is_root_of, is_hosted, own_up, below}
use Rattle.page_tree.specs.Attributes.{DifferInName}
use Rattle.page_tree.specs.Rows.{Rows, IsTree, one_node, grown, detached, moved, count, max_nodes, is_shadow, is_shadow_kind, is_element, is_element_kind, is_text, is_text_kind, kind_at, change_at, with_content, with_text}
use Rattle.page_tree.specs.Inside.{seen}
use Rattle.page_tree.specs.declared.geometry.Point.{Point}
use Rattle.page_tree.specs.declared.content.Content.{Content}
use Rattle.page_tree.specs.declared.content.Kind.TheVariants.{Text}
use Rattle.page_tree.proofs.Chains.{chain-suc, chain-zero}
use Rattle.page_tree.proofs.Counts.{times-without, times-put, without_absent, kids_without}
use Rattle.page_tree.proofs.NodeKinds.{shadow_kind_pushed, kind_pushed_other, kind_changed, length-change_at, shadow_kind_texted, element_kind_texted, text_kind_texted, element_pushed, focus_kept}
use Rattle.page_tree.proofs.Names.{NamesDiffer, none_differ, names_pushed, names_changed}
use Rattle.page_tree.proofs.Ranges.{not_all}
use Rattle.page_tree.proofs.Shadows.{chain_cut, each_below, other_parent, length-below}

-- ---- one node
pub chain_alone : (steps n : ℕ) (ups : List (Option ℕ)) → up_of ups n ≡ None → length (chain steps ups n) ≡ 1
unfolding chain
chain_alone zero n ups h = refl
chain_alone (suc steps) n ups h = rw h refl

up_alone : (n : ℕ) → up_of (None ∷ []) n ≡ None
up_alone zero = refl
up_alone (suc n) = refl

kids_alone : (n : ℕ) → kids_of ([] ∷ []) n ≡ []
kids_alone zero = refl
kids_alone (suc n) = refl

no_root : (n p : ℕ) (o : Option ℕ) → o ≡ None → o ≡ Some n → ⊥
no_root n p o none some = absurd (let e : None ≡ Some n = sym none ∙ some in cc)

alone_hosted : (n : ℕ) → is_hosted (None ∷ []) (None ∷ []) n ≡ false
alone_hosted n = ap (is_root_of (None ∷ []) n) (up_alone n)

alone_plain : (content : Content) (n : ℕ) → is_shadow_kind (Some content.kind) ≡ false → is_shadow_kind (kind_at (content ∷ []) n) ≡ false
alone_plain content zero plain = plain
alone_plain content (suc n) plain = refl

own_alone : (n : ℕ) → own_up (None ∷ []) (None ∷ []) n ≡ None
own_alone n = rw (up_alone n) refl

pub one_is_tree : (content : Content) → is_shadow_kind (Some content.kind) ≡ false → DifferInName content.attributes → IsTree (one_node content)
one_is_tree content plain apart = record {
  some = omega arith;
  few = omega arith;
  kids_of_each = refl;
  shadow_of_each = refl;
  content_of_each = refl;
  top = refl;
  each = λ p m. rw (kids_alone p, own_alone m) refl;
  host = λ p m is. absurd (no_root m p (shadow_of (None ∷ []) p) (up_alone p) is);
  roots = λ n. alone_plain content n plain ∙ sym (alone_hosted n);
  shallow = λ n. omega (arith, chain_alone 200 n (None ∷ []) (up_alone n));
  focused = tt;
  leaves = λ n is. kids_alone n;
  hosts = λ p m is. absurd (no_root m p (shadow_of (None ∷ []) p) (up_alone p) is);
  names = names_pushed [] content apart (λ n. none_differ);
}

-- ---- one node more
pub up_grown : (ups : List (Option ℕ)) (n : ℕ) → up_of (ups ++ None ∷ []) n ≡ up_of ups n
up_grown [] n = up_alone n
up_grown (u ∷ ups) zero = refl
up_grown (u ∷ ups) (suc n) = up_grown ups n

pub kids_grown : (kids : List (List ℕ)) (n : ℕ) → kids_of (kids ++ [] ∷ []) n ≡ kids_of kids n
kids_grown [] n = kids_alone n
kids_grown (k ∷ kids) zero = refl
kids_grown (k ∷ kids) (suc n) = kids_grown kids n

-- a chain depends on the parents alone
onwards_same : (f g : ℕ → List ℕ) (o : Option ℕ) → ((p : ℕ) → f p ≡ g p) → onwards f o ≡ onwards g o
onwards_same f g None h = refl
onwards_same f g (Some p) h = h p

pub chain_same : (steps : ℕ) (ups vps : List (Option ℕ)) → ((n : ℕ) → up_of ups n ≡ up_of vps n) → (n : ℕ) → chain steps ups n ≡ chain steps vps n
chain_same zero ups vps h n = chain-zero ups n ∙ sym (chain-zero vps n)
chain_same (suc steps) ups vps h n =
    chain-suc steps ups n ∙ ap (λ o. n ∷ onwards (chain steps ups) o) (h n) ∙ ap (λ xs. n ∷ xs) (onwards_same (chain steps ups) (chain steps vps) (up_of vps n) (chain_same steps ups vps h)) ∙ sym (chain-suc steps vps n)

pub hosted_same : (ups vps ss ts : List (Option ℕ)) (n : ℕ) → up_of ups n ≡ up_of vps n → ((p : ℕ) → shadow_of ss p ≡ shadow_of ts p) → is_hosted ups ss n ≡ is_hosted vps ts n
hosted_same ups vps ss ts n up shadows = ap (is_root_of ss n) up ∙ root_same (up_of vps n)
  where
    root_same : (o : Option ℕ) → is_root_of ss n o ≡ is_root_of ts n o
    root_same None = refl
    root_same (Some p) = ap (points_to n) (shadows p)

pub own_same : (ups vps ss ts : List (Option ℕ)) (n : ℕ) → up_of ups n ≡ up_of vps n → ((p : ℕ) → shadow_of ss p ≡ shadow_of ts p) → own_up ups ss n ≡ own_up vps ts n
own_same ups vps ss ts n up shadows = ap (λ b. cond b None (up_of ups n)) (hosted_same ups vps ss ts n up shadows) ∙ ap (λ o. cond (is_hosted vps ts n) None o) up

-- once a node is pushed, texts still have no children
pub leaves_pushed : (rows : Rows) (content : Content) → IsTree rows → (n : ℕ) → is_text_kind (kind_at (rows.contents ++ content ∷ []) n) ≡ true → kids_of (rows.kids ++ [] ∷ []) n ≡ []
leaves_pushed rows content tree n is = kids_grown rows.kids n ∙ elim (cases_eq n (count rows)) [
  | inl same ↦ get_or_past rows.kids n [] (omega (arith, tree.kids_of_each))
  | inr apart ↦ tree.leaves n (ap is_text_kind (sym (kind_pushed_other rows.contents content n (λ e. apart (e ∙ tree.content_of_each)))) ∙ is)
]

pub grown_is_tree : (rows : Rows) (content : Content) → is_shadow_kind (Some content.kind) ≡ false → DifferInName content.attributes → IsTree rows → count rows < max_nodes → IsTree (grown rows None content)
grown_is_tree rows content plain apart tree room = record {
  some = omega (arith, length-append rows.ups (None ∷ []));
  few = omega (arith, length-append rows.ups (None ∷ []));
  kids_of_each = omega (arith, length-append rows.ups (None ∷ []), length-append rows.kids ([] ∷ []), tree.kids_of_each);
  shadow_of_each = omega (arith, length-append rows.ups (None ∷ []), length-append rows.shadows (None ∷ []), tree.shadow_of_each);
  content_of_each = omega (arith, length-append rows.ups (None ∷ []), length-append rows.contents (content ∷ []), tree.content_of_each);
  top = up_grown rows.ups 0 ∙ tree.top;
  each = λ p m. rw (kids_grown rows.kids p) (tree.each p m ∙ ap (λ o. cond (points_to p o) 1 0) (sym (own_same (rows.ups ++ None ∷ []) rows.ups (rows.shadows ++ None ∷ []) rows.shadows m (up_grown rows.ups m) (up_grown rows.shadows))));
  host = λ p m is. up_grown rows.ups m ∙ tree.host p m (sym (up_grown rows.shadows p) ∙ is);
  roots = λ n. shadow_kind_pushed rows.contents content n plain ∙ tree.roots n ∙ sym (hosted_same (rows.ups ++ None ∷ []) rows.ups (rows.shadows ++ None ∷ []) rows.shadows n (up_grown rows.ups n) (up_grown rows.shadows));
  shallow = λ n. rw (chain_same 200 (rows.ups ++ None ∷ []) rows.ups (up_grown rows.ups) n) (tree.shallow n);
  focused = focus_kept rows.focus rows.contents (rows.contents ++ content ∷ []) (element_pushed rows.contents content) tree.focused;
  leaves = leaves_pushed rows content tree;
  hosts = λ p m is. element_pushed rows.contents content p (tree.hosts p m (sym (up_grown rows.shadows p) ∙ is));
  names = names_pushed rows.contents content apart tree.names;
}

-- ---- a node taken out
up_gone_same : (ups : List (Option ℕ)) (m : ℕ) → up_of (set ups m None) m ≡ None
up_gone_same [] m = refl
up_gone_same (u ∷ ups) zero = refl
up_gone_same (u ∷ ups) (suc m) = up_gone_same ups m

up_other : (ups : List (Option ℕ)) (m n : ℕ) (o : Option ℕ) → n ≢ m → up_of (set ups m o) n ≡ up_of ups n
up_other ups m n o apart = get_or-set_other ups m n o None apart

up_gone_cut : (ups : List (Option ℕ)) (m n : ℕ) → (up_of (set ups m None) n ≡ None) ⊎ (up_of (set ups m None) n ≡ up_of ups n)
up_gone_cut ups m n = elim (cases_eq n m) [ inl same ↦ inl (ap (up_of (set ups m None)) same ∙ up_gone_same ups m) | inr apart ↦ inr (up_other ups m n None apart) ]

-- a node that is no shadow root is nobody's
not_root : (rows : Rows) (m p : ℕ) → IsTree rows → is_shadow rows m ≡ false → shadow_of rows.shadows p ≡ Some m → ⊥
not_root rows m p tree plain is =
    let hosted : is_hosted rows.ups rows.shadows m ≡ true = ap (is_root_of rows.shadows m) (tree.host p m is) ∙ ap (points_to m) is ∙ eq-eqb m m refl in
    true≢false (sym hosted ∙ sym (tree.roots m) ∙ plain)

-- the parent of a node m that is no shadow root changed: who is a shadow root stays
module _ (rows : Rows) (m : ℕ) (o : Option ℕ) (vps : List (Option ℕ)) (tree : IsTree rows) (plain : is_shadow rows m ≡ false) (here : up_of vps m ≡ o) (others : (n : ℕ) → n ≢ m → up_of vps n ≡ up_of rows.ups n) where
  root_here : is_hosted vps rows.shadows m ≡ false
  root_here = ap (is_root_of rows.shadows m) here ∙ at o
    where
      off : (s : Option ℕ) → (s ≡ Some m → ⊥) → points_to m s ≡ false
      off None never = refl
      off (Some r) never = elim (cases_eq r m) [ inl same ↦ absurd (never (ap Some same)) | inr apart ↦ grind (arith, apart) ]

      at : (p : Option ℕ) → is_root_of rows.shadows m p ≡ false
      at None = refl
      at (Some p) = off (shadow_of rows.shadows p) (not_root rows m p tree plain)

  pub roots_changed : (n : ℕ) → is_shadow rows n ≡ is_hosted vps rows.shadows n
  roots_changed n = elim (cases_eq n m) [
    | inl same ↦ rw same (plain ∙ sym root_here)
    | inr apart ↦ tree.roots n ∙ sym (hosted_same vps rows.ups rows.shadows rows.shadows n (others n apart) (λ p. refl))
  ]

  pub own_changed_here : own_up vps rows.shadows m ≡ o
  own_changed_here = rw root_here here

  pub own_changed_other : (n : ℕ) → n ≢ m → own_up vps rows.shadows n ≡ own_up rows.ups rows.shadows n
  own_changed_other n apart = own_same vps rows.ups rows.shadows rows.shadows n (others n apart) (λ p. refl)

  pub host_changed : (p n : ℕ) → shadow_of rows.shadows p ≡ Some n → up_of vps n ≡ Some p
  host_changed p n is = elim (cases_eq n m) [
    | inl same ↦ absurd (not_root rows m p tree plain (is ∙ ap Some same))
    | inr apart ↦ others n apart ∙ tree.host p n is
  ]

-- where m is taken out of all children, texts still have none
leaves_without : (rows : Rows) (m : ℕ) → IsTree rows → (n : ℕ) → is_text rows n ≡ true → kids_of (map (without m) rows.kids) n ≡ []
leaves_without rows m tree n is = kids_without m rows.kids n ∙ ap (without m) (tree.leaves n is)

pub detached_is_tree : (rows : Rows) (m : ℕ) → IsTree rows → 0 < m → is_shadow rows m ≡ false → IsTree (detached rows m)
detached_is_tree rows m tree not_top plain =
    let vps = set rows.ups m None in
    let here : up_of vps m ≡ None = up_gone_same rows.ups m in
    let others : (n : ℕ) → n ≢ m → up_of vps n ≡ up_of rows.ups n = λ n apart. up_other rows.ups m n None apart in
    record {
      some = rw length-set tree.some;
      few = rw length-set tree.few;
      kids_of_each = rw (length-map, length-set) tree.kids_of_each;
      shadow_of_each = rw length-set tree.shadow_of_each;
      content_of_each = rw length-set tree.content_of_each;
      top = others 0 (omega arith) ∙ tree.top;
      each = λ p x. rw (kids_without m rows.kids p, times-without m x (kids_of rows.kids p)) (elim (cases_eq x m) [
        | inl same ↦ rw (ap (own_up vps rows.shadows) same ∙ own_changed_here rows m None vps tree plain here others) (grind (arith, same))
        | inr apart ↦ rw (own_changed_other rows m None vps tree plain here others x apart) (grind (arith, apart, tree.each p x))
      ]);
      host = host_changed rows m None vps tree plain here others;
      roots = roots_changed rows m None vps tree plain here others;
      shallow = λ n. omega (arith, chain_cut 200 rows.ups vps (up_gone_cut rows.ups m) n, tree.shallow n);
      focused = tree.focused;
      leaves = leaves_without rows m tree;
      hosts = tree.hosts;
      names = tree.names;
    }

-- ---- a node put elsewhere
split : (b : Bool) → (b ≡ true) ⊎ (b ≡ false)
split true = inl refl
split false = inr refl

pub shallow_at : (ups : List (Option ℕ)) → all_shallow ups ≡ true → (n : ℕ) → depth ups n ≤ max_depth
shallow_at ups all n = elim (cases_lt n (length ups)) [
  | inl within ↦ elim (split (nat_le (depth ups n) max_depth)) [ inl passed ↦ grind (arith, passed) | inr failed ↦ absurd (true≢false (sym all ∙ not_all (λ k. nat_le (depth ups k) max_depth) (length ups) n within failed)) ]
  | inr past ↦ omega (arith, chain_alone 200 n ups (get_or_past ups n None past))
]

up_moved : (ups : List (Option ℕ)) (m p : ℕ) → m < length ups → up_of (set (set ups m None) m (Some p)) m ≡ Some p
up_moved ups m p within = let there : m < length (set ups m None) = rw length-set within in get_or-set_same (set ups m None) m (Some p) None there

up_not_moved : (ups : List (Option ℕ)) (m p x : ℕ) → x ≢ m → up_of (set (set ups m None) m (Some p)) x ≡ up_of ups x
up_not_moved ups m p x apart = up_other (set ups m None) m x (Some p) apart ∙ up_other ups m x None apart

-- how often x stands among the children of q, once m is a child of p
each_moved : (rows : Rows) (m p place q x : ℕ) → IsTree rows → m < count rows → p < count rows → (o : Option ℕ) → (x ≡ m → o ≡ Some p) → (x ≢ m → o ≡ own_up rows.ups rows.shadows x)
    → times x (kids_of (moved rows m p place).kids q) ≡ cond (points_to q o) 1 0
each_moved rows m p place q x tree m_in p_in o now before =
    let others = map (without m) rows.kids in
    let there : p < length others = rw length-map (omega (arith, tree.kids_of_each)) in
    elim (cases_eq q p) [
      | inl here ↦ rw (here, get_or-set_same others p (put_among place m (kids_of others p)) [] there, times-put place m x (kids_of others p), kids_without m rows.kids p, times-without m x (kids_of rows.kids p))
          (elim (cases_eq x m) [ inl same ↦ rw (now same) (grind (arith, same)) | inr apart ↦ rw (before apart) (grind (arith, apart, tree.each p x)) ])
      | inr away ↦ rw (get_or-set_other others p q (put_among place m (kids_of others p)) [] away, kids_without m rows.kids q, times-without m x (kids_of rows.kids q))
          (elim (cases_eq x m) [ inl same ↦ rw (now same) (grind (arith, same, away)) | inr apart ↦ rw (before apart) (grind (arith, apart, tree.each q x)) ])
    ]

leaves_moved : (rows : Rows) (m p place : ℕ) → IsTree rows → is_text rows p ≡ false → (n : ℕ) → is_text rows n ≡ true → kids_of (moved rows m p place).kids n ≡ []
leaves_moved rows m p place tree no_text n is =
    let others = map (without m) rows.kids in
    let away : n ≢ p = λ same. true≢false (sym is ∙ ap (is_text rows) same ∙ no_text) in
    get_or-set_other others p n (put_among place m (kids_of others p)) [] away ∙ leaves_without rows m tree n is

pub moved_is_tree : (rows : Rows) (m p place : ℕ) → IsTree rows → 0 < m → is_shadow rows m ≡ false → is_text rows p ≡ false → m < count rows → p < count rows → all_shallow (moved rows m p place).ups ≡ true → IsTree (moved rows m p place)
moved_is_tree rows m p place tree not_top plain no_text m_in p_in shallow =
    let vps = set (set rows.ups m None) m (Some p) in
    let here : up_of vps m ≡ Some p = up_moved rows.ups m p m_in in
    let others : (n : ℕ) → n ≢ m → up_of vps n ≡ up_of rows.ups n = λ n apart. up_not_moved rows.ups m p n apart in
    record {
      some = rw (length-set, length-set) tree.some;
      few = rw (length-set, length-set) tree.few;
      kids_of_each = rw (length-set, length-map, length-set, length-set) tree.kids_of_each;
      shadow_of_each = rw (length-set, length-set) tree.shadow_of_each;
      content_of_each = rw (length-set, length-set) tree.content_of_each;
      top = others 0 (omega arith) ∙ tree.top;
      each = λ q x. each_moved rows m p place q x tree m_in p_in (own_up vps rows.shadows x)
          (λ same. ap (own_up vps rows.shadows) same ∙ own_changed_here rows m (Some p) vps tree plain here others)
          (own_changed_other rows m (Some p) vps tree plain here others x);
      host = host_changed rows m (Some p) vps tree plain here others;
      roots = roots_changed rows m (Some p) vps tree plain here others;
      shallow = shallow_at (moved rows m p place).ups shallow;
      focused = tree.focused;
      leaves = leaves_moved rows m p place tree no_text;
      hosts = tree.hosts;
      names = tree.names;
    }

-- ---- what nodes are, changed
relabelled_is_tree : (rows : Rows) (contents : List Content) → IsTree rows → length contents ≡ length rows.contents
    → ((n : ℕ) → is_shadow_kind (kind_at contents n) ≡ is_shadow rows n)
    → ((n : ℕ) → is_element_kind (kind_at contents n) ≡ is_element rows n)
    → ((n : ℕ) → is_text_kind (kind_at contents n) ≡ is_text rows n)
    → ((n : ℕ) → NamesDiffer contents n) → IsTree (record rows { contents = contents })
relabelled_is_tree rows contents tree same shadows elements texts names = record {
  some = tree.some;
  few = tree.few;
  kids_of_each = tree.kids_of_each;
  shadow_of_each = tree.shadow_of_each;
  content_of_each = same ∙ tree.content_of_each;
  top = tree.top;
  each = tree.each;
  host = tree.host;
  roots = λ k. shadows k ∙ tree.roots k;
  shallow = tree.shallow;
  focused = focus_kept rows.focus rows.contents contents (λ n h. elements n ∙ h) tree.focused;
  leaves = λ n is. tree.leaves n (sym (texts n) ∙ is);
  hosts = λ p m is. elements p ∙ tree.hosts p m is;
  names = names;
}

pub changed_is_tree : (rows : Rows) (n : ℕ) (f : Content → Content) → ((content : Content) → (f content).kind ≡ content.kind) → ((content : Content) → DifferInName content.attributes → DifferInName (f content).attributes)
    → IsTree rows → IsTree (with_content rows n f)
changed_is_tree rows n f keeps names tree =
    relabelled_is_tree rows (change_at n f rows.contents) tree (length-change_at f n rows.contents)
    (λ k. ap is_shadow_kind (kind_changed f keeps n rows.contents k)) (λ k. ap is_element_kind (kind_changed f keeps n rows.contents k))
    (λ k. ap is_text_kind (kind_changed f keeps n rows.contents k)) (names_changed f names n rows.contents tree.names)

pub with_text_is_tree : (rows : Rows) (n : ℕ) (text : List ℕ) → is_text rows n ≡ true → IsTree rows → IsTree (with_text rows n text)
with_text_is_tree rows n text is tree =
    relabelled_is_tree rows (with_text rows n text).contents tree (length-change_at (λ content. record content { kind = Text text }) n rows.contents)
    (shadow_kind_texted text n rows.contents is) (element_kind_texted text n rows.contents is) (text_kind_texted text n rows.contents is)
    (names_changed (λ content. record content { kind = Text text }) (λ content apart. apart) n rows.contents tree.names)

-- ---- the focus, and how far the page is scrolled
pub seen_is_tree : (rows : Rows) (focus : Option ℕ) (scroll : Point) → IfSome focus (λ n. is_element rows n ≡ true) → IsTree rows → IsTree (seen rows focus scroll)
seen_is_tree rows focus scroll element tree = record {
  some = tree.some;
  few = tree.few;
  kids_of_each = tree.kids_of_each;
  shadow_of_each = tree.shadow_of_each;
  content_of_each = tree.content_of_each;
  top = tree.top;
  each = tree.each;
  host = tree.host;
  roots = tree.roots;
  shallow = tree.shallow;
  focused = element;
  leaves = tree.leaves;
  hosts = tree.hosts;
  names = tree.names;
}

-- ---- what taking a node out changes
abbrev pub taken_from : Option ℕ → ℕ → List (List ℕ) → List (List ℕ)
taken_from None m kids = kids
taken_from (Some q) m kids = set kids q (without m (kids_of kids q))

kids_taken_at : (rows : Rows) (m : ℕ) (o : Option ℕ) → IsTree rows → up_of rows.ups m ≡ o → (k : ℕ) → k < length rows.kids → without m (kids_of rows.kids k) ≡ kids_of (taken_from o m rows.kids) k
kids_taken_at rows m None tree up k within =
    without_absent m (kids_of rows.kids k) (tree.each k m ∙ ap (λ o. cond (points_to k (cond (is_root_of rows.shadows m o) None o)) 1 0) up)
kids_taken_at rows m (Some q) tree up k within = elim (cases_eq k q) [
  | inl same ↦ rw (same) (let there : q < length rows.kids = omega arith in rw get_or-set_same refl)
  | inr apart ↦ rw (get_or-set_other rows.kids q k (without m (kids_of rows.kids q)) [] apart)
      (without_absent m (kids_of rows.kids k) (tree.each k m ∙ ap (λ o. cond (points_to k (cond (is_root_of rows.shadows m o) None o)) 1 0) up
      ∙ ap (λ b. cond b 1 0) (other_parent k q (points_to m (shadow_of rows.shadows q)) (λ e. apart (sym e)))))
]

length-taken_from : (o : Option ℕ) (m : ℕ) (kids : List (List ℕ)) → length (taken_from o m kids) ≡ length kids
length-taken_from None m kids = refl
length-taken_from (Some q) m kids = length-set kids q (without m (kids_of kids q))

pub kids_taken : (rows : Rows) (m : ℕ) (o : Option ℕ) → IsTree rows → up_of rows.ups m ≡ o → map (without m) rows.kids ≡ taken_from o m rows.kids
kids_taken rows m o tree up = ext_get_or [] (map (without m) rows.kids) (taken_from o m rows.kids) (length-map rows.kids (without m) ∙ sym (length-taken_from o m rows.kids))
    (λ k within. kids_without m rows.kids k ∙ kids_taken_at rows m o tree up k (let l : length (map (without m) rows.kids) ≡ length rows.kids = length-map rows.kids (without m) in omega arith))

-- a parent is a node
pub up_parent_within : (rows : Rows) (m q : ℕ) → IsTree rows → up_of rows.ups m ≡ Some q → q < count rows
up_parent_within rows m q tree up =
    let lists = below rows.shadows rows.kids in
    let same : length rows.shadows ≡ length rows.kids = omega (arith, tree.shadow_of_each, tree.kids_of_each) in
    let once : times m (kids_of lists q) ≡ 1 = each_below rows.ups rows.shadows rows.kids same tree.each tree.host q m ∙ ap (λ o. cond (points_to q o) 1 0) up ∙ ap (λ b. cond b 1 0) (eq-eqb q q refl) in
    elim (cases_lt q (length lists)) [
      | inl within ↦ omega (arith, tree.kids_of_each, length-below rows.shadows rows.kids)
      | inr past ↦ absurd (let none : times m (kids_of lists q) ≡ 0 = ap (times m) (get_or_past lists q [] past) in omega arith)
    ]
