use Rattle.page_file.proofs.Lawful.{page_lawful, listing_lawful}
use Rattle.page_file.proofs.laws.spelled_is_lawful.Goals as goal

pub returns-clause-pages : goal.returns-clause-pages
returns-clause-pages c = page_lawful

pub returns-clause-listings : goal.returns-clause-listings
returns-clause-listings c = listing_lawful
