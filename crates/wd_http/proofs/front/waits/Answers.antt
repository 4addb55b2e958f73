use Rattle.wd_http.proofs.FrameLemmas.{short_front}
use Rattle.wd_http.proofs.front.waits.Goals as goal

pub returns-in-Err : goal.returns-in-Err
returns-in-Err c =
    let e = c.in-Err.ensures in
    let f = short_front c.args.unread.now c.in-Err.seen e.0 c.in-Err.seen-test.1 e.1 in
    (f.0, f.1, e.2)
