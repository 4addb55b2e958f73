use Rattle.std.proofs.Common.{arith}
use Rattle.wd_http.proofs.SeenLemmas.{found, not_found, found_within, found_short}
use Rattle.wd_http.proofs.front.find_block.Goals as goal

pub overflow_add-result : goal.overflow_add-result
overflow_add-result c =
    let f = found c.args.unread.now c.args.seen c.min-limit.result c.args.mark c.requires c.min-limit.ensures c.in-Ok.more c.in-Ok.ensures in
    let s = found_short c.args.unread.now _ f in
    omega (arith, s)

pub returns-in-Ok : goal.returns-in-Ok
returns-in-Ok c =
    let f = found c.args.unread.now c.args.seen c.min-limit.result c.args.mark c.requires c.min-limit.ensures c.in-Ok.more c.in-Ok.ensures in
    (found_within c.args.unread.now _ f, f)

pub returns-in-Err : goal.returns-in-Err
returns-in-Err c =
    let f = not_found c.args.unread.now c.args.seen c.min-limit.result c.args.mark c.requires c.min-limit.ensures c.in-Err.mark c.in-Err.ensures.0 c.in-Err.ensures.1 in
    (c.min-limit.ensures, f.0, f.1)
