use Rattle.std.proofs.Common.{rules}
use Rattle.page_file.proofs.Lawful.{page_lawful}
use Rattle.page_file.proofs.page.read_page.Goals as goal

pub returns-clause-lawful : goal.returns-clause-lawful
returns-clause-lawful c = page_lawful c.args.address.now c.args.value.now _ (search rules)
