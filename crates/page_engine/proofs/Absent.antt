-- A number that no node has is that of no element and of no text.
use Rattle.std.proofs.Common.{◌≡◌, ℕ, ◌≤◌, false, Option, None, ap, sym, ◌∙◌, arith}
use Rattle.std.specs.Prelude.{slice_get, nat_lt}
use Rattle.std.specs.Option.{option_map}
use Rattle.std.proofs.lemmas.Option.{slice_get_past}
use Rattle.page_tree.specs.Rows.{Rows, IsTree, count, is_element, is_text, is_element_kind, is_text_kind}
use Rattle.page_tree.specs.declared.content.Content.{Content}

no_content : (rows : Rows) (n : ℕ) → IsTree rows → count rows ≤ n → slice_get rows.contents n ≡ None
no_content rows n tree past = slice_get_past rows.contents n (omega (arith, tree.content_of_each))

pub no_element : (rows : Rows) (n : ℕ) → IsTree rows → count rows ≤ n → is_element rows n ≡ false
no_element rows n tree past = ap (λ (o : Option Content). is_element_kind (option_map (λ c. c.kind) o)) (no_content rows n tree past)

pub no_text : (rows : Rows) (n : ℕ) → IsTree rows → count rows ≤ n → is_text rows n ≡ false
no_text rows n tree past = ap (λ (o : Option Content). is_text_kind (option_map (λ c. c.kind) o)) (no_content rows n tree past)

past : (m k : ℕ) → k ≤ m → nat_lt m k ≡ false
past m k h = grind (arith, h)

-- as the test of a number against the count
pub element_past : (rows : Rows) (n m k : ℕ) → IsTree rows → m ≡ n → k ≡ count rows → k ≤ m → nat_lt m k ≡ is_element rows n
element_past rows n m k tree is counted h = past m k h ∙ sym (no_element rows n tree (omega arith))

pub text_past : (rows : Rows) (n m k : ℕ) → IsTree rows → m ≡ n → k ≡ count rows → k ≤ m → nat_lt m k ≡ is_text rows n
text_past rows n m k tree is counted h = past m k h ∙ sym (no_text rows n tree (omega arith))
