use Rattle.std.proofs.Common.{refl}
use Rattle.page_engine.specs.Fitting.{timed}
use Rattle.page_file.proofs.reading.TimedEffectSpelling.read.Goals as goal

pub returns-in-Some-clause-fits : goal.returns-in-Some-clause-fits
returns-in-Some-clause-fits c = c.timed_row.ensures.fits timed refl
