-- What a list has, told by tests and by facts.
use Rattle.std.proofs.Common.{◌≡◌, ℕ, Bool, true, false, List, sym, ap, ◌∙◌}
use Rattle.std.specs.Prelude.{◌&&◌, ◌↔◌}
use Rattle.std.proofs.lemmas.Bool.{and_parts}
use Rattle.page_tree.specs.Rows.{Rows}
use Rattle.selectors.specs.Grammar.{GrammarIs}
use Rattle.selectors.specs.Named.{is_named as is_named_by}
use Rattle.selectors.specs.declared.selector.Complex.{Complex}
use Rattle.selectors.proofs.Alternatives.{one_selector}
use Rattle.interaction.specs.Found.{IsFound}
use Rattle.interaction.specs.declared.by.By.TheVariants.{Css}

both : (a b : Bool) → a ≡ true → b ≡ true → (a && b) ≡ true
both true b here there = there
both false b here there = here

-- a test that is another two is true exactly where both are
pub is_both : (has here there : Bool) → has ≡ (here && there) → (has ≡ true) ↔ ((here ≡ true) × (there ≡ true))
is_both has here there is = (λ h. and_parts here there (sym is ∙ h), λ h. is ∙ both here there h.0 h.1)

-- the one selector of a text names what is found by the text
pub is_both_named : (rows : Rows) (text : List ℕ) (selector : List Complex) (n : ℕ) (has here : Bool) → GrammarIs text selector → has ≡ (here && is_named_by rows selector n) → (has ≡ true) ↔ ((here ≡ true) × IsFound rows Css text n)
unfolding IsFound
is_both_named rows text selector n has here reads is = (
  λ h. (let parts = and_parts here (is_named_by rows selector n) (sym is ∙ h) in (parts.0, (selector, reads, parts.1))),
  λ h. is ∙ both here (is_named_by rows selector n) h.0 (ap (λ s. is_named_by rows s n) (one_selector text selector h.1.0 reads h.1.1) ∙ h.1.2),
)
