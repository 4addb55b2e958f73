-- A shadow root more keeps the rows of a document a tree.
use Rattle.std.proofs.Common.{◌≡◌, ◌≢◌, ℕ, zero, suc, ◌<◌, ◌≤◌, true, false, cond, List, [], ◌∷◌, ◌++◌, Option, Some, None, length, eq-eqb, refl, sym, ap, ◌∙◌, arith, inl, inr, length-set, length-append}
use Rattle.std.proofs.lemmas.List.{get_or-set_same, get_or-set_other, get_or_past}
use Rattle.std.proofs.lemmas.Bool.{cases_eq, cases_lt}
use Rattle.page_tree.specs.Places.{up_of, shadow_of, times, points_to, onwards, chain, depth, max_depth, is_root_of, is_hosted, own_up}
use Rattle.page_tree.specs.Rows.{Rows, IsTree, hosting, shadow_root, count, max_nodes, is_element, is_shadow, is_shadow_kind}
use Rattle.page_tree.proofs.Chains.{chain-suc, chain-zero}
use Rattle.page_tree.proofs.Names.{none_differ, names_pushed}
use Rattle.page_tree.proofs.NodeKinds.{kind_pushed_here, kind_pushed_other, element_pushed, focus_kept}
use Rattle.page_tree.proofs.Reach.{stable_down}
use Rattle.page_tree.proofs.Trees.{chain_alone, up_grown, kids_grown, leaves_pushed, up_parent_within}

up_pushed_here : (ups : List (Option ℕ)) (o : Option ℕ) (n : ℕ) → n ≡ length ups → up_of (ups ++ o ∷ []) n ≡ o
up_pushed_here [] o zero at = refl
up_pushed_here [] o (suc n) at = absurd (omega arith)
up_pushed_here (u ∷ ups) o zero at = absurd (omega arith)
up_pushed_here (u ∷ ups) o (suc n) at = up_pushed_here ups o n (omega arith)

up_pushed_other : (ups : List (Option ℕ)) (o : Option ℕ) (n : ℕ) → n ≢ length ups → up_of (ups ++ o ∷ []) n ≡ up_of ups n
up_pushed_other [] o zero apart = absurd (apart refl)
up_pushed_other [] o (suc n) apart = refl
up_pushed_other (u ∷ ups) o zero apart = refl
up_pushed_other (u ∷ ups) o (suc n) apart = up_pushed_other ups o n (λ e. apart (ap suc e))

-- a chain that starts below the new node never meets it
onwards_pushed : (f g : ℕ → List ℕ) (o : Option ℕ) (bound : ℕ) → ((q : ℕ) → o ≡ Some q → q < bound) → ((q : ℕ) → q < bound → f q ≡ g q) → onwards f o ≡ onwards g o
onwards_pushed f g None bound inside same = refl
onwards_pushed f g (Some q) bound inside same = same q (inside q refl)

chain_pushed : (steps : ℕ) (ups : List (Option ℕ)) (o : Option ℕ) → ((k q : ℕ) → up_of ups k ≡ Some q → q < length ups) → (n : ℕ) → n < length ups → chain steps (ups ++ o ∷ []) n ≡ chain steps ups n
chain_pushed zero ups o inside n within = chain-zero (ups ++ o ∷ []) n ∙ sym (chain-zero ups n)
chain_pushed (suc steps) ups o inside n within =
    chain-suc steps (ups ++ o ∷ []) n ∙ ap (λ u. n ∷ onwards (chain steps (ups ++ o ∷ [])) u) (up_pushed_other ups o n (λ e. absurd (omega arith)))
    ∙ ap (λ xs. n ∷ xs) (onwards_pushed (chain steps (ups ++ o ∷ [])) (chain steps ups) (up_of ups n) (length ups) (inside n) (chain_pushed steps ups o inside)) ∙ sym (chain-suc steps ups n)

module _ (rows : Rows) (host : ℕ) (tree : IsTree rows) (within : host < count rows) (free : shadow_of rows.shadows host ≡ None) where
  up_here : up_of (hosting rows host).ups (count rows) ≡ Some host
  up_here = up_pushed_here rows.ups (Some host) (count rows) refl

  up_other : (n : ℕ) → n ≢ count rows → up_of (hosting rows host).ups n ≡ up_of rows.ups n
  up_other n apart = up_pushed_other rows.ups (Some host) n apart

  shadow_here : shadow_of (hosting rows host).shadows host ≡ Some (count rows)
  shadow_here =
      let there : host < length (rows.shadows ++ None ∷ []) = omega (arith, length-append rows.shadows (None ∷ []), tree.shadow_of_each) in
      get_or-set_same (rows.shadows ++ None ∷ []) host (Some (count rows)) None there

  shadow_other : (p : ℕ) → p ≢ host → shadow_of (hosting rows host).shadows p ≡ shadow_of rows.shadows p
  shadow_other p apart = get_or-set_other (rows.shadows ++ None ∷ []) host p (Some (count rows)) None apart ∙ up_grown rows.shadows p

  hosted_here : is_hosted (hosting rows host).ups (hosting rows host).shadows (count rows) ≡ true
  hosted_here = ap (is_root_of (hosting rows host).shadows (count rows)) up_here ∙ ap (points_to (count rows)) shadow_here ∙ eq-eqb (count rows) (count rows) refl

  root_other : (n : ℕ) → n ≢ count rows → (o : Option ℕ) → is_root_of (hosting rows host).shadows n o ≡ is_root_of rows.shadows n o
  root_other n apart None = refl
  root_other n apart (Some p) = elim (cases_eq p host) [
    | inl same ↦
        let new : points_to n (Some (count rows)) ≡ false = grind (arith, apart) in
        ap (λ q. points_to n (shadow_of (hosting rows host).shadows q)) same ∙ ap (points_to n) shadow_here ∙ new ∙ sym (ap (λ q. points_to n (shadow_of rows.shadows q)) same ∙ ap (points_to n) free)
    | inr away ↦ ap (points_to n) (shadow_other p away)
  ]

  hosted_other : (n : ℕ) → n ≢ count rows → is_hosted (hosting rows host).ups (hosting rows host).shadows n ≡ is_hosted rows.ups rows.shadows n
  hosted_other n apart = ap (is_root_of (hosting rows host).shadows n) (up_other n apart) ∙ root_other n apart (up_of rows.ups n)

  own_here : own_up (hosting rows host).ups (hosting rows host).shadows (count rows) ≡ None
  own_here = ap (λ b. cond b None (up_of (hosting rows host).ups (count rows))) hosted_here

  own_other : (n : ℕ) → n ≢ count rows → own_up (hosting rows host).ups (hosting rows host).shadows n ≡ own_up rows.ups rows.shadows n
  own_other n apart = ap (λ b. cond b None (up_of (hosting rows host).ups n)) (hosted_other n apart) ∙ ap (λ o. cond (is_hosted rows.ups rows.shadows n) None o) (up_other n apart)

  no_parent : (n : ℕ) → n ≡ count rows → up_of rows.ups n ≡ None
  no_parent n at = get_or_past rows.ups n None (omega arith)

  own_before : (n : ℕ) → n ≡ count rows → own_up rows.ups rows.shadows n ≡ None
  own_before n at = ap (λ o. cond (is_root_of rows.shadows n o) None o) (no_parent n at)

  own_same : (n : ℕ) → own_up (hosting rows host).ups (hosting rows host).shadows n ≡ own_up rows.ups rows.shadows n
  own_same n = elim (cases_eq n (count rows)) [
    | inl same ↦ ap (own_up (hosting rows host).ups (hosting rows host).shadows) same ∙ own_here ∙ sym (own_before n same)
    | inr apart ↦ own_other n apart
  ]

  hosts : (p m : ℕ) → shadow_of (hosting rows host).shadows p ≡ Some m → up_of (hosting rows host).ups m ≡ Some p
  hosts p m is = elim (cases_eq p host) [
    | inl same ↦
        let number : Some (count rows) ≡ Some m = sym shadow_here ∙ ap (shadow_of (hosting rows host).shadows) (sym same) ∙ is in
        let at : m ≡ count rows = cc in
        ap (up_of (hosting rows host).ups) at ∙ up_here ∙ ap Some (sym same)
    | inr away ↦
        let before : up_of rows.ups m ≡ Some p = tree.host p m (sym (shadow_other p away) ∙ is) in
        elim (cases_eq m (count rows)) [
          | inl at ↦ absurd (let none : None ≡ Some p = sym (no_parent m at) ∙ before in cc)
          | inr apart ↦ up_other m apart ∙ before
        ]
  ]

  kinds : (n : ℕ) → is_shadow (hosting rows host) n ≡ is_hosted (hosting rows host).ups (hosting rows host).shadows n
  kinds n = elim (cases_eq n (count rows)) [
    | inl same ↦
        ap is_shadow_kind (kind_pushed_here rows.contents shadow_root n (omega (arith, tree.content_of_each)))
        ∙ sym (ap (is_hosted (hosting rows host).ups (hosting rows host).shadows) same ∙ hosted_here)
    | inr apart ↦
        let away : n ≢ length rows.contents = λ e. apart (e ∙ tree.content_of_each) in
        ap is_shadow_kind (kind_pushed_other rows.contents shadow_root n away) ∙ tree.roots n ∙ sym (hosted_other n apart)
  ]

  short_here : depth rows.ups host < max_depth → depth (hosting rows host).ups (count rows) ≤ max_depth
  short_here shallow =
      let ups = (hosting rows host).ups in
      let first : depth ups (count rows) ≡ suc (length (chain 199 ups host)) = ap length (chain-suc 199 ups (count rows) ∙ ap (λ o. count rows ∷ onwards (chain 199 ups) o) up_here) in
      let same : length (chain 199 ups host) ≡ length (chain 199 rows.ups host) = ap length (chain_pushed 199 rows.ups (Some host) (λ k q. up_parent_within rows k q tree) host within) in
      let down : length (chain 199 rows.ups host) ≡ depth rows.ups host = ap length (stable_down 199 rows.ups host (tree.shallow host)) in
      omega arith

  short : depth rows.ups host < max_depth → (n : ℕ) → depth (hosting rows host).ups n ≤ max_depth
  short shallow n = elim (cases_eq n (count rows)) [
    | inl same ↦ rw same (short_here shallow)
    | inr apart ↦ elim (cases_lt n (count rows)) [
      | inl before ↦ rw (chain_pushed 200 rows.ups (Some host) (λ k q. up_parent_within rows k q tree) n before) (tree.shallow n)
      | inr past ↦ omega (arith, chain_alone 200 n (hosting rows host).ups (up_other n apart ∙ get_or_past rows.ups n None past))
    ]
  ]

pub hosting_is_tree : (rows : Rows) (host : ℕ) → IsTree rows → count rows < max_nodes → host < count rows → is_element rows host ≡ true → shadow_of rows.shadows host ≡ None → depth rows.ups host < max_depth → IsTree (hosting rows host)
hosting_is_tree rows host tree room within element free shallow = record {
  some = omega (arith, length-append rows.ups (Some host ∷ []));
  few = omega (arith, length-append rows.ups (Some host ∷ []));
  kids_of_each = omega (arith, length-append rows.ups (Some host ∷ []), length-append rows.kids ([] ∷ []), tree.kids_of_each);
  shadow_of_each = omega (arith, length-append rows.ups (Some host ∷ []), length-set (rows.shadows ++ None ∷ []) host (Some (count rows)), length-append rows.shadows (None ∷ []), tree.shadow_of_each);
  content_of_each = omega (arith, length-append rows.ups (Some host ∷ []), length-append rows.contents (shadow_root ∷ []), tree.content_of_each);
  top = up_pushed_other rows.ups (Some host) 0 (λ e. absurd (omega (arith, tree.some))) ∙ tree.top;
  each = λ p m. ap (times m) (kids_grown rows.kids p) ∙ tree.each p m ∙ ap (λ o. cond (points_to p o) 1 0) (sym (own_same rows host tree within free m));
  host = hosts rows host tree within free;
  roots = kinds rows host tree within free;
  shallow = short rows host tree within free shallow;
  focused = focus_kept rows.focus rows.contents (rows.contents ++ shadow_root ∷ []) (element_pushed rows.contents shadow_root) tree.focused;
  leaves = leaves_pushed rows shadow_root tree;
  hosts = λ p m is. element_pushed rows.contents shadow_root p (elim (cases_eq p host) [
    | inl same ↦ ap (is_element rows) same ∙ element
    | inr away ↦ tree.hosts p m (sym (shadow_other rows host tree within free p away) ∙ is)
  ]);
  names = names_pushed rows.contents shadow_root none_differ tree.names;
}
