-- The nodes of a `Document` after each kind of write, as rows.
use Rattle.std.proofs.Common.{◌≡◌, ◌≢◌, ℕ, zero, suc, ◌<◌, true, false, List, [], ◌∷◌, Option, Some, None, Result, Ok, Err, length, map, set, get_or, refl, sym, ap, ◌∙◌, subst, arith}
use Rattle.std.specs.Prelude.{OnOk, OnErr}
use Rattle.std.proofs.lemmas.List.{length-map, map-set, set-get_or, get_or-map}
use Rattle.page_tree.specs.Places.{up_of, kids_of, shadow_of, depth, max_depth, without}
use Rattle.page_tree.specs.Attributes.{DifferInName}
use Rattle.page_tree.specs.Rows.{Rows, IsTree, grown, hosting, with_shadow, with_up, with_kids, without_kid, with_content, change_at, is_element, is_shadow_kind, max_nodes, shadow_root, origin}
use Rattle.page_tree.specs.Inside.{rows_of, seen, ups_of, kids_lists, shadows_of, contents_of}
use Rattle.page_tree.specs.declared.geometry.Point.{Point}
use Rattle.page_tree.specs.declared.node.Node.{Node}
use Rattle.page_tree.specs.declared.content.Content.{Content}
use Rattle.page_tree.proofs.Hosting.{hosting_is_tree}
use Rattle.page_tree.proofs.Trees.{kids_taken, up_parent_within, one_is_tree, grown_is_tree}

pub same_rows : {ups ups' : List (Option ℕ)} {kids kids' : List (List ℕ)} {shadows shadows' : List (Option ℕ)} {contents contents' : List Content} → ups ≡ ups' → kids ≡ kids' → shadows ≡ shadows' → contents ≡ contents'
    → let a : Rows = record { ups = ups; kids = kids; shadows = shadows; contents = contents; focus = None; scroll = origin } in let b : Rows = record { ups = ups'; kids = kids'; shadows = shadows'; contents = contents'; focus = None; scroll = origin } in a ≡ b
same_rows e f g h = λ i. record { ups = e i; kids = f i; shadows = g i; contents = h i; focus = None; scroll = origin }

-- ---- one write
pub where_ok : {X E : Type 0} (r : Result X E) (P Q : Type 0) → (P → Q) → OnOk r P → OnOk r Q
where_ok (Ok x) P Q h p = h p
where_ok (Err e) P Q h p = tt

pub where_err : {X E : Type 0} (r : Result X E) (P Q : Type 0) → (P → Q) → OnErr r P → OnErr r Q
where_err (Ok x) P Q h p = tt
where_err (Err e) P Q h p = h p

unchanged : {X : Type 0} (f : Node → X) (nodes : List Node) (i : ℕ) (x y : Node) → i < length nodes → x ≡ get_or nodes i x → f y ≡ f x → map f (set nodes i y) ≡ map f nodes
unchanged f nodes i x y within read same =
    map-set f nodes i y ∙ ap (set (map f nodes) i) (same ∙ ap f read ∙ sym (get_or-map f nodes i x (f x) within)) ∙ set-get_or (map f nodes) i (f x)

-- a node written as it was
pub rows_kept : (nodes : List Node) (i j : ℕ) (x y : Node) → i ≡ j → j < length nodes → x ≡ get_or nodes i x → y.up ≡ x.up → y.kids.items ≡ x.kids.items → y.shadow ≡ x.shadow → y.content ≡ x.content → rows_of (set nodes i y) ≡ rows_of nodes
rows_kept nodes i j x y place within read up kids shadow content =
    let there : i < length nodes = omega arith in
    same_rows (unchanged (λ n. n.up) nodes i x y there read up) (unchanged (λ n. n.kids.items) nodes i x y there read kids)
    (unchanged (λ n. n.shadow) nodes i x y there read shadow) (unchanged (λ n. n.content) nodes i x y there read content)

pub rows-set_up : (nodes : List Node) (i j : ℕ) (x y : Node) → i ≡ j → j < length nodes → x ≡ get_or nodes i x → y.kids.items ≡ x.kids.items → y.shadow ≡ x.shadow → y.content ≡ x.content → rows_of (set nodes i y) ≡ with_up (rows_of nodes) j y.up
rows-set_up nodes i j x y place within read kids shadow content =
    let there : i < length nodes = omega arith in
    same_rows (map-set (λ (n : Node). n.up) nodes i y ∙ ap (λ k. set (ups_of nodes) k y.up) place) (unchanged (λ n. n.kids.items) nodes i x y there read kids)
    (unchanged (λ n. n.shadow) nodes i x y there read shadow) (unchanged (λ n. n.content) nodes i x y there read content)

pub rows-set_kids : (nodes : List Node) (i j : ℕ) (x y : Node) → i ≡ j → j < length nodes → x ≡ get_or nodes i x → y.up ≡ x.up → y.shadow ≡ x.shadow → y.content ≡ x.content → rows_of (set nodes i y) ≡ with_kids (rows_of nodes) j y.kids.items
rows-set_kids nodes i j x y place within read up shadow content =
    let there : i < length nodes = omega arith in
    same_rows (unchanged (λ n. n.up) nodes i x y there read up) (map-set (λ (n : Node). n.kids.items) nodes i y ∙ ap (λ k. set (kids_lists nodes) k y.kids.items) place)
    (unchanged (λ n. n.shadow) nodes i x y there read shadow) (unchanged (λ n. n.content) nodes i x y there read content)

pub rows-set_shadow : (nodes : List Node) (i j : ℕ) (x y : Node) → i ≡ j → j < length nodes → x ≡ get_or nodes i x → y.up ≡ x.up → y.kids.items ≡ x.kids.items → y.content ≡ x.content → rows_of (set nodes i y) ≡ with_shadow (rows_of nodes) j y.shadow
rows-set_shadow nodes i j x y place within read up kids content =
    let there : i < length nodes = omega arith in
    same_rows (unchanged (λ n. n.up) nodes i x y there read up) (unchanged (λ n. n.kids.items) nodes i x y there read kids)
    (map-set (λ (n : Node). n.shadow) nodes i y ∙ ap (λ k. set (shadows_of nodes) k y.shadow) place) (unchanged (λ n. n.content) nodes i x y there read content)

pub kids_read : (nodes : List Node) (i j : ℕ) (x : Node) → i ≡ j → j < length nodes → x ≡ get_or nodes i x → x.kids.items ≡ kids_of (kids_lists nodes) j
kids_read nodes i j x place within read =
    let there : i < length nodes = omega arith in
    ap (λ (n : Node). n.kids.items) read ∙ sym (get_or-map (λ (n : Node). n.kids.items) nodes i x [] there) ∙ ap (kids_of (kids_lists nodes)) place

-- ---- a parent left
pub left_parent : (nodes : List Node) (m q : ℕ) → IsTree (rows_of nodes) → Some q ≡ up_of (ups_of nodes) m → with_kids (rows_of nodes) q (without m (kids_of (kids_lists nodes) q)) ≡ without_kid (rows_of nodes) m
left_parent nodes m q tree up = same_rows refl (sym (kids_taken (rows_of nodes) m (Some q) tree (sym up))) refl refl

pub left_none : (nodes : List Node) (m : ℕ) → IsTree (rows_of nodes) → None ≡ up_of (ups_of nodes) m → rows_of nodes ≡ without_kid (rows_of nodes) m
left_none nodes m tree up = same_rows refl (sym (kids_taken (rows_of nodes) m None tree (sym up))) refl refl

pub up_within : (nodes : List Node) (m q : ℕ) → IsTree (rows_of nodes) → Some q ≡ up_of (ups_of nodes) m → q < length nodes
up_within nodes m q tree up = let same : length (ups_of nodes) ≡ length nodes = length-map nodes (λ x. x.up) in omega (arith, up_parent_within (rows_of nodes) m q tree (sym up))

-- ---- a node's content
set-change : (f : Content → Content) (i : ℕ) (xs : List Content) (x : Content) → i < length xs → x ≡ get_or xs i x → set xs i (f x) ≡ change_at i f xs
set-change f i [] x within read = absurd (omega arith)
set-change f zero (y ∷ xs) x within read = ap (λ c. f c ∷ xs) read
set-change f (suc i) (y ∷ xs) x within read = ap (λ cs. y ∷ cs) (set-change f i xs x (omega arith) read)

pub rows-set_content : (f : Content → Content) (nodes : List Node) (i j : ℕ) (x y : Node) → i ≡ j → j < length nodes → x ≡ get_or nodes i x → y.up ≡ x.up → y.kids.items ≡ x.kids.items → y.shadow ≡ x.shadow → y.content ≡ f x.content → rows_of (set nodes i y) ≡ with_content (rows_of nodes) j f
rows-set_content f nodes i j x y place within read up kids shadow content =
    let there : i < length nodes = omega arith in
    let far : i < length (contents_of nodes) = rw length-map there in
    same_rows (unchanged (λ n. n.up) nodes i x y there read up) (unchanged (λ n. n.kids.items) nodes i x y there read kids) (unchanged (λ n. n.shadow) nodes i x y there read shadow)
    (map-set (λ (n : Node). n.content) nodes i y ∙ ap (set (contents_of nodes) i) content
    ∙ set-change f i (contents_of nodes) x.content far (ap (λ (n : Node). n.content) read ∙ sym (get_or-map (λ (n : Node). n.content) nodes i x x.content there)) ∙ ap (λ k. change_at k f (contents_of nodes)) place)

-- ---- a node more
pub first_nodes : (nodes : List Node) (new : Rows) (content : Content) → is_shadow_kind (Some content.kind) ≡ false → DifferInName content.attributes → nodes ≡ [] → new ≡ grown (rows_of nodes) None content → IsTree new
first_nodes nodes new content plain apart empty is = subst IsTree (sym (is ∙ ap (λ ns. grown (rows_of ns) None content) empty)) (one_is_tree content plain apart)

pub grown_nodes : (nodes : List Node) (focus : Option ℕ) (scroll : Point) (new : Rows) (content : Content) → is_shadow_kind (Some content.kind) ≡ false → DifferInName content.attributes → new ≡ grown (rows_of nodes) None content → IsTree (seen (rows_of nodes) focus scroll) → length nodes ≢ max_nodes → IsTree (seen new focus scroll)
grown_nodes nodes focus scroll new content plain apart is tree room =
    subst IsTree (sym (ap (λ r. seen r focus scroll) is))
    (grown_is_tree (seen (rows_of nodes) focus scroll) content plain apart tree (let same : length (ups_of nodes) ≡ length nodes = length-map nodes (λ x. x.up) in omega (arith, tree.few)))

-- ---- a shadow root
pub hosting_rows : (nodes : List Node) (mid new : Rows) (host root : ℕ) → mid ≡ grown (rows_of nodes) (Some host) shadow_root → new ≡ with_shadow mid host (Some root) → root ≡ length nodes → new ≡ hosting (rows_of nodes) host
hosting_rows nodes mid new host root first second number =
    second ∙ ap (λ r. with_shadow r host (Some root)) first
    ∙ ap (λ k. with_shadow (grown (rows_of nodes) (Some host) shadow_root) host (Some k)) (number ∙ sym (length-map nodes (λ x. x.up)))

pub hosting_nodes : (nodes : List Node) (focus : Option ℕ) (scroll : Point) (new now : Rows) (host : ℕ) → seen (rows_of nodes) focus scroll ≡ now → new ≡ hosting (rows_of nodes) host → IsTree (seen (rows_of nodes) focus scroll) → length nodes ≢ max_nodes
    → host < length now.ups → is_element now host ≡ true → shadow_of now.shadows host ≡ None → depth (ups_of nodes) host < max_depth → IsTree (seen new focus scroll)
hosting_nodes nodes focus scroll new now host view is tree room within element free shallow =
    let same : length (ups_of nodes) ≡ length nodes = length-map nodes (λ x. x.up) in
    let as_now : length (ups_of nodes) ≡ length now.ups = ap (λ r. length r.ups) view in
    subst IsTree (sym (ap (λ r. seen r focus scroll) is))
    (hosting_is_tree (seen (rows_of nodes) focus scroll) host tree (omega (arith, tree.few)) (omega arith) (ap (λ r. is_element r host) view ∙ element) (ap (λ r. shadow_of r.shadows host) view ∙ free) shallow)
