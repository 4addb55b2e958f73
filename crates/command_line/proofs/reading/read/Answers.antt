use Rattle.std.proofs.Common.{◌≡◌, ◌∙◌, Some, None, map, ap}
use Rattle.std.specs.Str.{encode_utf8_all}
use Rattle.clap.specs.Words.{found_of, rows_of}
use Rattle.command_line.specs.Reading.{given_by}
use Rattle.command_line.proofs.ClapFinds.{given_where_found, none_where_failed, texts_are}
use Rattle.command_line.proofs.Exact.{none_spelled, some_spelled}
use Rattle.command_line.proofs.reading.read.Goals as goal

pub returns-in-Ok-clause-given : goal.returns-in-Ok-clause-given
returns-in-Ok-clause-given c =
    ap Some c.in_ok-given_in-in-Ok.ensures
    ∙ given_where_found (map (λ option. option.now) c.args.options.now) (map encode_utf8_all c.args.words.now) (texts_are c.args.words.now c.in_ok-texts.ensures.texts)
    _ _ (rows_of (found_of c.in-Ok.found)) c.in_ok-command_of.ensures c.in_ok-texts.ensures.same
    c.in-Ok.ensures.kinds (λ e. (c.in-Ok.ensures.matches e).0)

pub returns-in-Ok-clause-spelled : goal.returns-in-Ok-clause-spelled
returns-in-Ok-clause-spelled c =
    some_spelled (map (λ option. option.now) c.args.options.now) (map encode_utf8_all c.args.words.now) (Some c.in_ok-given_in-in-Ok.field-0) (returns-in-Ok-clause-given c)

pub returns : goal.returns
returns c =
    let none : None ≡ given_by (map (λ option. option.now) c.args.options.now) (map encode_utf8_all c.args.words.now) =
    none_where_failed (map (λ option. option.now) c.args.options.now) (map encode_utf8_all c.args.words.now) (texts_are c.args.words.now c.in_ok-texts.ensures.texts)
    _ _ c.in-Err.error c.in_ok-command_of.ensures c.in_ok-texts.ensures.same
    c.in-Err.ensures.kinds (λ e. c.in_default.not-OutOfMemory (c.kind.ensures ∙ e)) in
    record {
      given = none;
      spelled = tt;
      none = none_spelled (map (λ option. option.now) c.args.options.now) (map encode_utf8_all c.args.words.now) None none;
    }
