use Rattle.std.proofs.Common.{◌≡◌, ◌+◌, take, min}
use Rattle.std.specs.Str.Parse.{digits_value}
use Rattle.wd_http.specs.Headers.{body_limit}
use Rattle.wd_http.proofs.headers.number_of.Given as goal

abbrev pub invariant-loop-digit : goal.invariant-loop-digit
invariant-loop-digit l = l.number ≡ min (digits_value 10 (take l.digit-index l.digits)) (body_limit + 1)
