-- A page whose nodes are known keeps the rules where a walk over them says so.
use Rattle.std.proofs.Common.{◌≡◌, ℕ, zero, suc, ◌≤◌, Bool, true, false, List, [], ◌∷◌, ◌++◌, Some, None, Result, Ok, Err, length, map, take, refl, sym, ap, ◌∙◌, append-nil}
use Rattle.std.specs.Prelude.{◌&&◌, slice_get, OnOk}
use Rattle.std.proofs.lemmas.List.{append_assoc}
use Rattle.page_tree.specs.Places.{all_shallow}
use Rattle.page_tree.specs.Rows.{max_nodes}
use Rattle.page_engine.specs.Nodes.{is_node, is_root_def, AreNodes}
use Rattle.page_engine.specs.declared.page_def.NodeDef.{NodeDef}

pub always : {X E : Type 0} (r : Result X E) (P : Type 0) → P → OnOk r P
always (Ok x) P p = p
always (Err e) P p = tt

-- each of the nodes keeps the rules, by those before it
abbrev pub are_nodes : List NodeDef → List NodeDef → Bool
are_nodes earlier [] = true
are_nodes earlier (d ∷ ds) = is_node earlier d && are_nodes (earlier ++ d ∷ []) ds

and_left : (b c : Bool) → (b && c) ≡ true → b ≡ true
and_left true c e = refl
and_left false c e = e

and_right : (b c : Bool) → (b && c) ≡ true → c ≡ true
and_right true c e = e
and_right false c e = absurd (let f : false ≡ true = e in cc)

some_same : (x d : NodeDef) → Some x ≡ Some d → x ≡ d
some_same x d e = cc

pub each_from : (earlier nodes : List NodeDef) → are_nodes earlier nodes ≡ true → (n : ℕ) (d : NodeDef) → slice_get nodes n ≡ Some d → is_node (earlier ++ take n nodes) d ≡ true
each_from earlier [] e n d is = absurd (let f : None ≡ Some d = is in cc)
each_from earlier (x ∷ xs) e zero d is =
    ap (λ before. is_node before d) (append-nil earlier) ∙ ap (is_node earlier) (sym (some_same x d is)) ∙ and_left _ _ e
each_from earlier (x ∷ xs) e (suc n) d is =
    ap (λ before. is_node before d) (sym (append_assoc earlier (x ∷ []) (take n xs))) ∙ each_from (earlier ++ x ∷ []) xs (and_right _ _ e) n d is

pub lawful_nodes : (nodes : List NodeDef) → length nodes ≤ max_nodes → is_root_def (slice_get nodes 0) ≡ true → are_nodes [] nodes ≡ true → all_shallow (map (λ d. d.up) nodes) ≡ true → AreNodes nodes
lawful_nodes nodes few root each shallow = record { few = few; root = root; each = λ n d is. each_from [] nodes each n d is; shallow = shallow }
