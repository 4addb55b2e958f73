use Rattle.std.proofs.Common.{rules}
use Rattle.test_pages.proofs.LawfulDozen.{lawful_dozen}
use Rattle.test_pages.proofs.dozen.a_dozen.Goals as goal

pub returns : goal.returns
returns c = lawful_dozen _ (search rules)
