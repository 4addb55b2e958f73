use Rattle.selectors.proofs.Alternatives.{one_selector}
use Rattle.selectors.proofs.laws.one_selector.Goals as goal

pub returns : goal.returns
returns c = one_selector
