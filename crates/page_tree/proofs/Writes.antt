-- A document once f is applied to what one of its nodes is.
use Rattle.std.proofs.Common.{◌≡◌, ℕ, ◌<◌, true, List, length, set, get_or, refl, sym, ap, ◌∙◌, subst, arith}
use Rattle.std.proofs.lemmas.List.{length-map}
use Rattle.page_tree.specs.Attributes.{DifferInName}
use Rattle.page_tree.specs.Rows.{Rows, IsTree, with_content, with_text, is_text, count}
use Rattle.page_tree.specs.DocumentState.{DocumentState}
use Rattle.page_tree.specs.Inside.{rows_of, seen}
use Rattle.page_tree.specs.declared.content.Content.{Content}
use Rattle.page_tree.specs.declared.document.Document.TheInside.{Inside}
use Rattle.page_tree.specs.declared.node.Node.{Node}
use Rattle.page_tree.proofs.Nodes.{rows-set_content}
use Rattle.page_tree.proofs.Trees.{changed_is_tree, with_text_is_tree}

abbrev pub rows_inside : Inside → Rows
rows_inside document = seen (rows_of document.nodes.items) document.focus document.scroll

abbrev pub state : Inside → DocumentState
state document = record { rows = rows_inside document; spent = document.spent }

-- node i, which is x, with f applied to what it is
abbrev pub rows_written : (Content → Content) → Inside → ℕ → Node → Rows
rows_written f document i x = seen (rows_of (set document.nodes.items i (record x { content = f x.content }))) document.focus document.scroll

abbrev pub with_rows : DocumentState → Rows → DocumentState
with_rows now rows = record now { rows = rows }

module _ (f : Content → Content) (before : Inside) (now : DocumentState) (view : state before ≡ now) (i j : ℕ) (x : Node) (place : i ≡ j) (within : j < count now.rows) (read : x ≡ get_or before.nodes.items i x) where
  pub content_written : with_rows (state before) (rows_written f before i x) ≡ with_rows now (with_content now.rows j f)
  content_written =
      let nodes = before.nodes.items in
      let same : length (rows_of nodes).ups ≡ count now.rows = ap (λ (s : DocumentState). count s.rows) view in
      let there : j < length nodes = omega (arith, length-map nodes (λ n. n.up)) in
      let node : Node = record x { content = f x.content } in
      let here : rows_of (set nodes i node) ≡ with_content (rows_of nodes) j f = rows-set_content f nodes i j x node place there read refl refl refl refl in
      ap (λ (r : Rows). with_rows (state before) (seen r before.focus before.scroll)) here ∙ ap (λ (s : DocumentState). with_rows s (with_content s.rows j f)) view

  pub written_is_tree : ((content : Content) → (f content).kind ≡ content.kind) → ((content : Content) → (f content).attributes ≡ content.attributes) → IsTree (rows_inside before) → IsTree (rows_written f before i x)
  written_is_tree keeps names tree =
      subst (λ (s : DocumentState). IsTree s.rows) (sym content_written) (changed_is_tree now.rows j f keeps (λ content. subst DifferInName (sym (names content))) (subst (λ (s : DocumentState). IsTree s.rows) view tree))

  -- the same where f gives a text its characters
  pub texted_is_tree : (text : List ℕ) → (with_content now.rows j f ≡ with_text now.rows j text) → is_text now.rows j ≡ true → IsTree (rows_inside before) → IsTree (rows_written f before i x)
  texted_is_tree text same is tree =
      subst (λ (s : DocumentState). IsTree s.rows) (sym content_written) (subst IsTree (sym same) (with_text_is_tree now.rows j text is (subst (λ (s : DocumentState). IsTree s.rows) view tree)))
