use Rattle.endpoints.proofs.Answer.{same_route}
use Rattle.endpoints.proofs.endpoints.one_answer_for_request.Goals as goal

pub returns-clause-one : goal.returns-clause-one
returns-clause-one c = same_route

pub returns-clause-known : goal.returns-clause-known
returns-clause-known c = λ method target a r u. u a.command r.path_fits r.texts

pub returns-clause-allowed : goal.returns-clause-allowed
returns-clause-allowed c = λ method target a r u. u.others a.command r.path_fits r.method_is

pub returns-clause-apart : goal.returns-clause-apart
returns-clause-apart c = λ method target u v. u v.some.0 v.some.1 v.some.2
