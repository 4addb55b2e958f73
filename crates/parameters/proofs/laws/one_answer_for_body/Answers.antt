use Rattle.parameters.proofs.Unique.{one_object, one_code, not_both}
use Rattle.parameters.proofs.laws.one_answer_for_body.Goals as goal

pub returns-clause-object : goal.returns-clause-object
returns-clause-object c = one_object

pub returns-clause-code : goal.returns-clause-code
returns-clause-code c = one_code

pub returns-clause-apart : goal.returns-clause-apart
returns-clause-apart c = not_both
