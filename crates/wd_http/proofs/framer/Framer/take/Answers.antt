use Rattle.std.proofs.Common.{◌∙◌, ap, drop}
use Rattle.std.proofs.lemmas.List.{take_rest}
use Rattle.wd_http.specs.Stream.{Stream}
use Rattle.wd_http.proofs.FramerLemmas.{takes_front}
use Rattle.wd_http.proofs.framer.Framer.take.Goals as goal

pub returns-in-Whole-clause-framed : goal.returns-in-Whole-clause-framed
returns-in-Whole-clause-framed c = rw (← c.self.view_is) (takes_front
    c.self.inside.buffer.items _ c.self.inside.start c.in-Whole.len c.self.inside.bad c.self.inside.spent c.in_ok-seen.field-0 c.in-Whole.request
    (ap (λ (s : Stream). s.spent) c.self.view_is ∙ c.requires)
    (take_rest c.deref-2.result.now c.self.inside.start ∙ ap (drop c.self.inside.start) c.deref-2.ensures.value) c.in_ok-seen.ensures c.in-Whole.is c.in_default.not-Some)
