use Rattle.std.proofs.Common.{sym, ◌∙◌}
use Rattle.parameters.specs.Parameters.{AtObject}
use Rattle.parameters.proofs.reading.read_parameters.Goals as goal

pub returns-in-Some-clause-cause : goal.returns-in-Some-clause-cause
returns-in-Some-clause-cause c =
    AtObject c.in_ok-members.members c.in_ok-members.ensures.ok (sym c.in_ok-code.ensures ∙ c.in-Some.is)
