use Rattle.page_file.proofs.LoadSteps.{AreLoadsSoFar}
use Rattle.page_file.proofs.links.loads.Given as goal

abbrev pub invariant-loop-page : goal.invariant-loop-page
invariant-loop-page l = AreLoadsSoFar l.pages l.page-index l.loads.items
