-- The rows of a page with one node more, by how it stands.
use Rattle.std.proofs.Common.{◌≡◌, ◌≢◌, ℕ, ◌+◌, ◌<◌, ◌≤◌, Bool, true, false, not, List, [], ◌∷◌, ◌++◌, Option, Some, None, length, map, set, get_or, eqb, eq-eqb, refl, sym, ap, ◌∙◌, arith, inl, inr, append-nil}
use Rattle.std.specs.Prelude.{◌&&◌, if◌then◌else◌}
use Rattle.std.specs.List.{range_with_len}
use Rattle.std.proofs.lemmas.Bool.{cases_eq}
use Rattle.std.proofs.lemmas.Bool.Decides.{eqb_tells}
use Rattle.std.proofs.lemmas.List.{length-map, map-append, length-append}
use Rattle.std.proofs.Math.Seq.{set-append_seam}
use Rattle.std.proofs.Math.ListN.{get_or-append}
use Rattle.page_tree.specs.Places.{points_to, without, put_among, kids_of}
use Rattle.page_tree.specs.Rows.{IsTree, grown, moved, hosting, shadow_root}
use Rattle.page_tree.proofs.Nodes.{same_rows}
use Rattle.page_tree.proofs.Trees.{up_parent_within}
use Rattle.page_tree.specs.declared.content.Content.{Content}
use Rattle.page_engine.specs.Nodes.{is_child_of, is_shadow_of, is_shadow_def}
use Rattle.page_engine.specs.Opening.{bare_rows, content_of, for_each, numbers_where, children_in, shadow_in, first_of}
use Rattle.page_engine.specs.declared.page_def.NodeDef.{NodeDef}
use Rattle.page_engine.proofs.Growth.{pushed, set_pushed, numbers-append, numbers_none, numbers_others, numbers_few, put_last, at_number, length-for_each, same_each}

not_eqb : (q p : ℕ) → q ≢ p → eqb q p ≡ false
not_eqb q p apart = elim (eqb_tells q p) [
  | inl same ↦ absurd (apart same.1)
  | inr other ↦ other.0
]

points_here : (p : ℕ) (o : Option ℕ) → o ≡ Some p → points_to p o ≡ true
points_here p o is = ap (points_to p) is ∙ eq-eqb p p refl

points_elsewhere : (p : ℕ) (o : Option ℕ) → o ≢ Some p → points_to p o ≡ false
points_elsewhere p None apart = refl
points_elsewhere p (Some q) apart = elim (cases_eq q p) [
  | inl same ↦ absurd (apart (ap Some same))
  | inr other ↦ not_eqb q p other
]

and_false : (b c : Bool) → c ≡ false → (b && c) ≡ false
and_false true c e = e
and_false false c e = refl

no_child : (p : ℕ) (d : NodeDef) → d.up ≢ Some p → is_child_of p d ≡ false
no_child p d apart = and_false (not (is_shadow_def d.kind)) _ (points_elsewhere p d.up apart)

no_shadow_of : (p : ℕ) (d : NodeDef) → d.up ≢ Some p → is_shadow_of p d ≡ false
no_shadow_of p d apart = and_false (is_shadow_def d.kind) _ (points_elsewhere p d.up apart)

-- the numbers with one node more, that passes or does not
passed : (test : NodeDef → Bool) (xs : List NodeDef) (d : NodeDef) → test d ≡ true → numbers_where test 0 (xs ++ d ∷ []) ≡ numbers_where test 0 xs ++ length xs ∷ []
passed test xs d e =
    let same : 0 + length xs ≡ length xs = omega arith in
    numbers-append test 0 xs d ∙ ap (λ b. numbers_where test 0 xs ++ (if b then (0 + length xs) ∷ [] else [])) e ∙ ap (λ k. numbers_where test 0 xs ++ k ∷ []) same

skipped : (test : NodeDef → Bool) (xs : List NodeDef) (d : NodeDef) → test d ≡ false → numbers_where test 0 (xs ++ d ∷ []) ≡ numbers_where test 0 xs
skipped test xs d e =
    numbers-append test 0 xs d ∙ ap (λ b. numbers_where test 0 xs ++ (if b then (0 + length xs) ∷ [] else [])) e ∙ append-nil (numbers_where test 0 xs)

module _ (xs : List NodeDef) (d : NodeDef) (tree : IsTree (bare_rows xs)) where
  same_count : length (map (λ (e : NodeDef). e.up) xs) ≡ length xs
  same_count = length-map xs (λ (e : NodeDef). e.up)

  not_under_next : (k : ℕ) → get_or (map (λ (e : NodeDef). e.up) xs) k None ≢ Some (length xs)
  not_under_next k e = absurd (omega (arith, up_parent_within (bare_rows xs) k (length xs) tree e, same_count))

  no_children : children_in xs (length xs) ≡ []
  no_children = numbers_none (is_child_of (length xs)) (length xs) 0 xs (no_child (length xs)) not_under_next

  no_shadows : numbers_where (is_shadow_of (length xs)) 0 xs ≡ []
  no_shadows = numbers_none (is_shadow_of (length xs)) (length xs) 0 xs (no_shadow_of (length xs)) not_under_next

  ups_more : (o : Option ℕ) → d.up ≡ o → map (λ (e : NodeDef). e.up) xs ++ o ∷ [] ≡ map (λ (e : NodeDef). e.up) (xs ++ d ∷ [])
  ups_more o is = ap (λ (u : Option ℕ). map (λ (e : NodeDef). e.up) xs ++ u ∷ []) (sym is) ∙ sym (map-append (λ (e : NodeDef). e.up) xs (d ∷ []))

  contents_more : map content_of xs ++ content_of d ∷ [] ≡ map content_of (xs ++ d ∷ [])
  contents_more = sym (map-append content_of xs (d ∷ []))

  all_more : {X : Type 0} (g : ℕ → X) → for_each g (length xs + 1) ≡ for_each g (length (xs ++ d ∷ []))
  all_more g = let e : length xs + 1 ≡ length (xs ++ d ∷ []) = omega (arith, length-append xs (d ∷ [])) in ap (for_each g) e

  -- no shadow root: the shadow roots are the same
  shadows_same : is_shadow_def d.kind ≡ false → for_each (shadow_in xs) (length xs) ++ None ∷ [] ≡ for_each (shadow_in (xs ++ d ∷ [])) (length (xs ++ d ∷ []))
  shadows_same plain =
      let skips : (q : ℕ) → is_shadow_of q d ≡ false = λ q. ap (λ b. b && points_to q d.up) plain in
      pushed (shadow_in xs) (shadow_in (xs ++ d ∷ [])) (length xs) None
      (ap first_of (skipped (is_shadow_of (length xs)) xs d (skips (length xs)) ∙ no_shadows))
      (λ k within. ap first_of (skipped (is_shadow_of k) xs d (skips k)))
      ∙ all_more (shadow_in (xs ++ d ∷ []))

  -- no child: the children are the same
  kids_same : ((q : ℕ) → is_child_of q d ≡ false) → for_each (children_in xs) (length xs) ++ [] ∷ [] ≡ for_each (children_in (xs ++ d ∷ [])) (length (xs ++ d ∷ []))
  kids_same skips =
      pushed (children_in xs) (children_in (xs ++ d ∷ [])) (length xs) []
      (skipped (is_child_of (length xs)) xs d (skips (length xs)) ∙ no_children)
      (λ k within. skipped (is_child_of k) xs d (skips k))
      ∙ all_more (children_in (xs ++ d ∷ []))

  -- a node that stands alone
  pub bare_alone : d.up ≡ None → is_shadow_def d.kind ≡ false → grown (bare_rows xs) None (content_of d) ≡ bare_rows (xs ++ d ∷ [])
  bare_alone up plain =
      same_rows (ups_more None up) (kids_same (λ q. no_child q d (λ e. let f : None ≡ Some q = sym up ∙ e in absurd cc))) (shadows_same plain) contents_more

  -- a shadow root
  pub bare_hosting : (host : ℕ) → d.up ≡ Some host → is_shadow_def d.kind ≡ true → content_of d ≡ shadow_root → host < length xs → numbers_where (is_shadow_of host) 0 xs ≡ [] → hosting (bare_rows xs) host ≡ bare_rows (xs ++ d ∷ [])
  bare_hosting host up is content within free =
      same_rows (ups_more (Some host) up)
      (kids_same (λ q. ap (λ b. not b && points_to q d.up) is))
      (ap (λ n. set (for_each (shadow_in xs) (length xs) ++ None ∷ []) host (Some n)) same_count
      ∙ set_pushed (shadow_in xs) (shadow_in (xs ++ d ∷ [])) (length xs) host (Some (length xs)) None within
      (ap first_of (passed (is_shadow_of host) xs d (ap (λ b. b && points_to host d.up) is ∙ points_here host d.up up) ∙ ap (λ ns. ns ++ length xs ∷ []) free))
      (ap first_of (skipped (is_shadow_of (length xs)) xs d (no_shadow_of (length xs) d (other (length xs) (λ e. omega (arith, e)))) ∙ no_shadows))
      (λ k far apart. ap first_of (skipped (is_shadow_of k) xs d (no_shadow_of k d (other k apart))))
      ∙ all_more (shadow_in (xs ++ d ∷ [])))
      (ap (λ (c : Content). map content_of xs ++ c ∷ []) (sym content) ∙ contents_more)
    where
      other : (k : ℕ) → k ≢ host → d.up ≢ Some k
      other k apart e = let f : Some host ≡ Some k = sym up ∙ e in absurd (apart (cc))

  -- a node under a parent
  pub bare_under : (m p place : ℕ) → m ≡ length xs → d.up ≡ Some p → is_shadow_def d.kind ≡ false → p < length xs → length xs ≤ place → moved (grown (bare_rows xs) None (content_of d)) m p place ≡ bare_rows (xs ++ d ∷ [])
  bare_under m p place number up plain within far =
      ap (λ k. moved (grown (bare_rows xs) None (content_of d)) k p place) number
      ∙ same_rows ups_eq kids_eq (shadows_same plain) contents_more
    where
      n : ℕ
      n = length xs

      ups : List (Option ℕ)
      ups = map (λ (e : NodeDef). e.up) xs

      kids : List (List ℕ)
      kids = for_each (children_in xs) (length xs) ++ [] ∷ []

      step : (o : Option ℕ) → set (ups ++ None ∷ []) n o ≡ ups ++ o ∷ []
      step o = ap (λ k. set (ups ++ None ∷ []) k o) (sym same_count) ∙ set-append_seam ups None [] o

      ups_eq : set (set (ups ++ None ∷ []) n None) n (Some p) ≡ map (λ (e : NodeDef). e.up) (xs ++ d ∷ [])
      ups_eq = ap (λ us. set us n (Some p)) (step None) ∙ step (Some p) ∙ ups_more (Some p) up

      without_all : map (without n) kids ≡ kids
      without_all =
          map-append (without n) (for_each (children_in xs) n) ([] ∷ [])
          ∙ ap (λ ks. ks ++ [] ∷ []) (same_each (without n) (children_in xs) (range_with_len 0 n) (λ q. numbers_others (is_child_of q) 0 n xs (omega arith)))

      kids_at : kids_of kids p ≡ children_in xs p
      kids_at = get_or-append (for_each (children_in xs) n) ([] ∷ []) [] p (omega (arith, length-for_each (children_in xs) n)) ∙ at_number (children_in xs) n p [] within

      other : (k : ℕ) → k ≢ p → d.up ≢ Some k
      other k apart e = let f : Some p ≡ Some k = sym up ∙ e in absurd (apart (cc))

      kids_eq : set (map (without n) kids) p (put_among place n (kids_of (map (without n) kids) p)) ≡ for_each (children_in (xs ++ d ∷ [])) (length (xs ++ d ∷ []))
      kids_eq =
          ap (λ ks. set ks p (put_among place n (kids_of ks p))) without_all
          ∙ ap (λ ks. set kids p (put_among place n ks)) kids_at
          ∙ ap (λ ks. set kids p ks) (put_last n place (children_in xs p) (omega (arith, far, numbers_few (is_child_of p) 0 xs)))
          ∙ set_pushed (children_in xs) (children_in (xs ++ d ∷ [])) n p (children_in xs p ++ n ∷ []) [] within
          (passed (is_child_of p) xs d (ap (λ b. not b && points_to p d.up) plain ∙ points_here p d.up up))
          (skipped (is_child_of n) xs d (no_child n d (other n (λ e. omega (arith, e)))) ∙ no_children)
          (λ k small apart. skipped (is_child_of k) xs d (no_child k d (other k apart)))
          ∙ all_more (children_in (xs ++ d ∷ []))
