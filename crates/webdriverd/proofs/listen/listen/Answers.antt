use Rattle.std.proofs.Common.{inr, sym, ◌∙◌}
use Rattle.std.specs.Str.{chars}
use Rattle.webdriverd.proofs.CauseLemmas.{failed, went_well}
use Rattle.webdriverd.proofs.HeadlineLemmas.{all_served_if, not_opened, only_opened, opened, unasked}
use Rattle.webdriverd.proofs.listen.listen.Goals as goal

pub returns-in_default-clause-calls : goal.returns-in_default-clause-calls
returns-in_default-clause-calls g c = not_opened g.L.Line.makes c.args.line.now c.args.port c.args.connections

pub returns-then-is_err-clause-calls : goal.returns-then-is_err-clause-calls
returns-then-is_err-clause-calls g c = only_opened g.L.Line.makes c.args.line.now c.open.new.self c.args.port c.args.connections c.open.ensures.made

pub returns-then-is_err-clause-unasked : goal.returns-then-is_err-clause-unasked
returns-then-is_err-clause-unasked g c = λ none. inr (unasked g.L.Line.makes c.args.line.now c.open.new.self c.args.port c.open.ensures.made)

pub returns-in-Ok-true-clause-headline : goal.returns-in-Ok-true-clause-headline
returns-in-Ok-true-clause-headline g c =
    all_served_if c.args.site (chars c.args.name.now) c.args.run c.args.port c.args.connections g.C.Clock.now_gives g.C.Clock.rest_gives g.L.Line.makes g.L.Line.tells c.args.clock.now c.attend_to_end.new.clock
    c.args.line.now c.open.new.self c.attend_to_end.new.line (g.L.Line.talk c.args.line.now) (g.L.Line.talk c.open.new.self) (g.L.Line.talk c.attend_to_end.new.line) c.args.evaluator.now c.attend_to_end.new.evaluator
    c.in-Ok.remote c.attend_to_end.result.remote c.in-Ok.ensures.is c.open.ensures.made c.open.ensures.told c.attend_to_end.ensures.attended

pub returns-in-Ok-true-clause-calls : goal.returns-in-Ok-true-clause-calls
returns-in-Ok-true-clause-calls g c = opened g.L.Line.makes c.args.line.now c.open.new.self c.attend_to_end.new.line c.args.port c.args.connections c.open.ensures.made c.attend_to_end.ensures.most

pub returns-in-Ok-false-clause-calls : goal.returns-in-Ok-false-clause-calls
returns-in-Ok-false-clause-calls g c = only_opened g.L.Line.makes c.args.line.now c.open.new.self c.args.port c.args.connections c.open.ensures.made

pub returns-in-Ok-false-clause-unasked : goal.returns-in-Ok-false-clause-unasked
returns-in-Ok-false-clause-unasked g c = λ none. inr (unasked g.L.Line.makes c.args.line.now c.open.new.self c.args.port c.open.ensures.made)

pub returns-in-Err-clause-calls : goal.returns-in-Err-clause-calls
returns-in-Err-clause-calls g c = only_opened g.L.Line.makes c.args.line.now c.open.new.self c.args.port c.args.connections c.open.ensures.made

pub returns-then-is_err-clause-line_fault : goal.returns-then-is_err-clause-line_fault
returns-then-is_err-clause-line_fault g c = λ five. failed (g.L.Line.refusals c.args.line.now) (g.L.Line.refusals c.open.new.self) c.open.result (sym c.is_err.ensures.value ∙ c.if-is_err.true) c.open.ensures.refusal

pub returns-in-Ok-false-clause-line_kept : goal.returns-in-Ok-false-clause-line_kept
returns-in-Ok-false-clause-line_kept g c = λ other. went_well (g.L.Line.refusals c.args.line.now) (g.L.Line.refusals c.open.new.self) c.open.result (sym c.is_err.ensures.value ∙ c.if-is_err.false) c.open.ensures.refusal

pub returns-in-Err-clause-line_kept : goal.returns-in-Err-clause-line_kept
returns-in-Err-clause-line_kept g c = λ other. went_well (g.L.Line.refusals c.args.line.now) (g.L.Line.refusals c.open.new.self) c.open.result (sym c.is_err.ensures.value ∙ c.if-is_err.false) c.open.ensures.refusal
