use Rattle.webdriverd.proofs.ServiceLemmas.{handed_within}
use Rattle.webdriverd.proofs.serve.farewell.Goals as goal

pub returns-clause-within : goal.returns-clause-within
returns-clause-within g c = handed_within g.L.Line.makes c.args.line.now c.send.new.line _ c.send.ensures.handed
