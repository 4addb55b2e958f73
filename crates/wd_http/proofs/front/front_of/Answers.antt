use Rattle.wd_http.proofs.FrameLemmas.{long_front, short_front, bad_front}
use Rattle.wd_http.proofs.BodyLemmas.{known_head}
use Rattle.wd_http.proofs.front.front_of.Goals as goal

pub front_with_body-requires-in-Good : goal.front_with_body-requires-in-Good
front_with_body-requires-in-Good c = known_head c.args.unread.now c.in-Ok.block c.in-Good.body c.in_ok-request-in-Ok.field-0 c.in-Good.request c.in-Ok.ensures.1 c.in_ok-request-in-Ok.ensures c.in-Good.is

pub returns-in-Bad : goal.returns-in-Bad
returns-in-Bad c = bad_front c.args.unread.now c.in-Ok.block c.in_ok-request-in-Ok.field-0 c.in-Bad.kind c.in-Ok.ensures.1 c.in_ok-request-in-Ok.ensures c.in-Bad.is

pub returns-in-Err-eq16384-default : goal.returns-in-Err-eq16384-default
returns-in-Err-eq16384-default c =
    let e = c.in-Err-eq16384-default.ensures in
    long_front c.args.unread.now c.in-Err-eq16384-default.field-0-0 e.0 c.in-Err-eq16384-default.field-0-0-test e.1

pub returns-in-Err : goal.returns-in-Err
returns-in-Err c =
    let e = c.in-Err.ensures in
    let f = short_front c.args.unread.now c.in-Err.seen e.0 c.in-Err.seen-test.1 e.1 in
    (f.0, f.1, e.2)
