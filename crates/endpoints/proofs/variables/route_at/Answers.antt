use Rattle.std.proofs.Common.{codes}
use Rattle.std.proofs.lemmas.Result.{err_from_is_err_and}
use Rattle.endpoints.proofs.Answer.{unread}
use Rattle.endpoints.proofs.variables.route_at.Goals as goal

pub returns-in_err-value-clause-cause : goal.returns-in_err-value-clause-cause
returns-in_err-value-clause-cause c =
    let p = err_from_is_err_and c.from_residual.result c.from_residual.ensures.1 in
    rw (p.1, p.2) (unread c.args.command _ (codes "{session}") _ c.pattern_of-pattern.ensures (λ t. t.session) _ c.in_err-value.ensures.cause)

pub returns-in_err-value-2-clause-cause : goal.returns-in_err-value-2-clause-cause
returns-in_err-value-2-clause-cause c =
    let p = err_from_is_err_and c.from_residual-in_err-value-2.result c.from_residual-in_err-value-2.ensures.1 in
    rw (p.1, p.2) (unread c.args.command _ (codes "{item}") _ c.pattern_of-pattern.ensures (λ t. t.item) _ c.in_err-value-2.ensures.cause)

pub returns-in_err-value-3-clause-cause : goal.returns-in_err-value-3-clause-cause
returns-in_err-value-3-clause-cause c =
    let p = err_from_is_err_and c.from_residual-in_err-value-3.result c.from_residual-in_err-value-3.ensures.1 in
    rw (p.1, p.2) (unread c.args.command _ (codes "{name}") _ c.pattern_of-pattern.ensures (λ t. t.name) _ c.in_err-value-3.ensures.cause)
