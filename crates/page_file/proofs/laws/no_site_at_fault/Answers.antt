use Rattle.page_file.proofs.NoSite.{no_site}
use Rattle.page_file.proofs.laws.no_site_at_fault.Goals as goal

pub returns : goal.returns
returns c = no_site
