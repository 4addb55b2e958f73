use Rattle.std.proofs.Common.{◌≡◌, drop}
use Rattle.parameters.specs.Refusals.{first_refusal}
use Rattle.parameters.proofs.refusing.first_refusal.Given as goal

abbrev pub invariant-loop-parameter : goal.invariant-loop-parameter
invariant-loop-parameter l = first_refusal l.members (drop l.parameter-index l.parameters) ≡ first_refusal l.members l.parameters
