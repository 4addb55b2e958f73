use Rattle.std.proofs.Common.{◌∙◌}
use Rattle.webdriverd.proofs.AskedSiteLemmas.{prints_by_as}
use Rattle.webdriverd.proofs.listen.announce.Goals as goal

pub returns-clause-told : goal.returns-clause-told
returns-clause-told g c = λ h. prints_by_as _ _ _ _ _ _ _ (c.as_str.ensures.value ∙ c.in_ok-line.ensures) (c.print.ensures.told h)
