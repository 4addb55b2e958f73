use Rattle.std.proofs.Common.{◌≡◌, ◌∙◌, map, sym, ap, rules}
use Rattle.std.specs.Option.{option_and_then, option_map}
use Rattle.std.specs.Str.{encode_utf8_all}
use Rattle.command_line.specs.Given.{given_of}
use Rattle.command_line.specs.Reading.{given_by}
use Rattle.webdriverd.specs.Words.{listen_of, listen_options}
use Rattle.webdriverd.proofs.words.asked_of_listen.Goals as goal

pub returns-in-Some : goal.returns-in-Some
unfolding given_by
returns-in-Some c =
    let given : option_map given_of c.in_ok-given.field-0 ≡ given_by listen_options (map encode_utf8_all c.args.behind.now) = search rules in
    c.listen_of.ensures ∙ ap (option_and_then listen_of) (ap (option_map given_of) (sym c.in-Some.is) ∙ given)

pub returns-in-None : goal.returns-in-None
unfolding given_by
returns-in-None c =
    let given : option_map given_of c.in_ok-given.field-0 ≡ given_by listen_options (map encode_utf8_all c.args.behind.now) = search rules in
    ap (option_and_then listen_of) (ap (option_map given_of) (sym c.in-None.is) ∙ given)
