use Rattle.std.proofs.Common.{chars}
use Rattle.page_tree.specs.Places.{contains}
use Rattle.selectors.specs.Scopes.{is_in}
use Rattle.interaction.proofs.FoundLemmas.{is_both_named}
use Rattle.interaction.proofs.finding.by_selector.Goals as goal

pub returns-clause-exactly : goal.returns-clause-exactly
returns-clause-exactly c n =
    let rows = c.args.document.now.rows in
    is_both_named rows (chars c.args.text.now) c.in_ok-selector.selector n (contains n c.in_ok-select.field-0) (is_in rows c.args.scope n) c.in_ok-selector.ensures.read (c.in_ok-select.ensures.nodes n)
