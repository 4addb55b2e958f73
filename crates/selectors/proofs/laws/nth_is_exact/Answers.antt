use Rattle.selectors.proofs.NthLemmas.{nth_exact}
use Rattle.selectors.proofs.laws.nth_is_exact.Goals as goal

pub returns : goal.returns
returns c a b place = nth_exact a b place
