use Rattle.page_engine.specs.Fitting.{answering}
use Rattle.page_file.proofs.reading.AnswerEffectSpelling.read.Goals as goal

pub returns-in-Some-clause-fits : goal.returns-in-Some-clause-fits
returns-in-Some-clause-fits c = c.plain_effect.ensures.fits answering
