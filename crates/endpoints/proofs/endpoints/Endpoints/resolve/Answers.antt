use Rattle.std.proofs.lemmas.Result.{IfErr-weaker, err_from_is_err_and}
use Rattle.endpoints.proofs.Answer.{cause_of}
use Rattle.endpoints.proofs.endpoints.Endpoints.resolve.Goals as goal

pub returns-in-Some-clause-cause : goal.returns-in-Some-clause-cause
returns-in-Some-clause-cause c =
    IfErr-weaker c.route_at.result _ _ (cause_of c.args.method.now c.args.target.now _ c.in-Some.command c.path_of_target-path.ensures c.in-Some.ensures.fits) c.route_at.ensures.cause

pub returns-in_err-_route-clause-cause : goal.returns-in_err-_route-clause-cause
returns-in_err-_route-clause-cause c =
    let p = err_from_is_err_and c.from_residual.result c.from_residual.ensures.1 in
    rw (p.1, p.2) (cause_of c.args.method.now c.args.target.now _ c.in-Some-first_at.other c.path_of_target-path.ensures c.in-Some-first_at.ensures.fits _ c.in_err-_route.ensures.cause)
