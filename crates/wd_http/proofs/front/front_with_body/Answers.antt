use Rattle.std.proofs.Common.{◌≡◌, ◌∙◌, ◌+◌, ◌-◌, ap, arith, take, drop}
use Rattle.wd_http.proofs.BodyLemmas.{waiting_open, with_body}
use Rattle.wd_http.proofs.front.front_with_body.Goals as goal

pub returns-then-unread-end : goal.returns-then-unread-end
returns-then-unread-end c = (waiting_open c.args.unread.now c.args.waiting c.requires c.if-unread-end.true, omega (arith, c.requires.short, c.requires.most), c.requires)

pub returns : goal.returns
returns c =
    let k : c.args.waiting.block + c.args.waiting.body - c.args.waiting.block ≡ c.args.waiting.body = omega arith in
    (c.if-unread-end.false, with_body c.args.unread.now c.in_ok-body.body c.args.waiting c.requires c.if-unread-end.false (c.in_ok-body.ensures ∙ ap (λ n. take n (drop c.args.waiting.block c.args.unread.now)) k))
