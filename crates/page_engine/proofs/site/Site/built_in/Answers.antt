use Rattle.std.proofs.Common.{◌≡◌, rules}
use Rattle.page_engine.specs.BuiltIn.{built_in_site}
use Rattle.page_engine.specs.declared.site.Site.{Site}
use Rattle.page_engine.proofs.BuiltInLaws.{lawful_site}
use Rattle.page_engine.proofs.site.Site.built_in.Goals as goal

pub returns-clause-lawful : goal.returns-clause-lawful
returns-clause-lawful c =
    let site : Site = record { start = 0; pages = c.push.new.self } in
    let same : site ≡ built_in_site = search rules in
    lawful_site site same c.in_ok-built_in_page.ensures.address
