use Rattle.std.proofs.Common.{rules}
use Rattle.bench_page.proofs.FlatLaws.{flat_lawful}
use Rattle.bench_page.proofs.page_of.Goals as goal

pub returns : goal.returns
returns c = flat_lawful _ c.args.fields c.args.timers (search rules) c.requires.few c.requires.rare
