use Rattle.std.proofs.Common.{chars, sym, subst}
use Rattle.std.specs.Prelude.{IfOk, IsTrue, ◌↔◌}
use Rattle.page_tree.specs.Places.{contains}
use Rattle.selectors.specs.Scopes.{is_in}
use Rattle.interaction.specs.Found.{IsFound}
use Rattle.interaction.specs.declared.by.By.{By}
use Rattle.interaction.proofs.finding.find.Goals as goal

pub returns-in-Css-clause-exactly : goal.returns-in-Css-clause-exactly
returns-in-Css-clause-exactly c n =
    let rows = c.args.document.now.rows in
    subst (λ (by : By). IfOk c.by_selector.result (λ list. IsTrue (contains n list) ↔ (IsTrue (is_in rows c.args.scope n) × IsFound rows by (chars c.args.value.now) n))) (sym c.in-Css.is) (c.by_selector.ensures.exactly n)
