use Rattle.std.proofs.Common.{◌≡◌, rules, ap, ◌∙◌}
use Rattle.std.specs.Str.{bytes_eq, chars}
use Rattle.std.proofs.lemmas.Str.{encodes-chars, chars-IsAscii}
use Rattle.wd_json.proofs.Texts.{same_texts}
use Rattle.wd_json.proofs.text.is_same.Goals as goal

pub returns-clause-characters : goal.returns-clause-characters
returns-clause-characters c =
    let compared : c.eq.result ≡ bytes_eq c.args.text.now c.args.other.now = search rules in
    compared ∙ same_texts c.args.text.now c.args.other.now (encodes-chars c.args.text.now c.utf8.text) (encodes-chars c.args.other.now c.utf8.other)

pub returns-clause-ascii : goal.returns-clause-ascii
returns-clause-ascii c ascii =
    returns-clause-characters c ∙ ap (bytes_eq (chars c.args.text.now)) (chars-IsAscii c.args.other.now ascii)
