use Rattle.page_engine.proofs.Absent.{element_past}
use Rattle.page_engine.proofs.changes.is_element.Goals as goal

pub returns-else-number-count-clause-value : goal.returns-else-number-count-clause-value
returns-else-number-count-clause-value c =
    element_past c.args.document.now.rows c.args.node c.number.result c.count.result c.law.ensures c.number.ensures c.count.ensures c.if-number-count.false
