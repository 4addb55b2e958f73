use Rattle.std.proofs.Common.{rules}
use Rattle.test_pages.proofs.LawfulTwelve.{lawful_page}
use Rattle.test_pages.proofs.twelve_nodes.twelve_nodes.Goals as goal

pub returns : goal.returns
returns c = lawful_page _ (search rules)
