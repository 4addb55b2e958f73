use Rattle.std.proofs.Common.{◌≡◌, rules}
use Rattle.page_engine.specs.Blank.{blank_page}
use Rattle.page_engine.proofs.BlankLaws.{lawful_blank}
use Rattle.page_engine.proofs.blank.blank_page.Goals as goal

pub returns-clause-lawful : goal.returns-clause-lawful
returns-clause-lawful c =
    let same : c.bare_page.result ≡ blank_page = search rules in
    lawful_blank c.bare_page.result same
