use Rattle.std.proofs.Common.{◌++◌, ◌∙◌, ap, string_bytes}
use Rattle.std.specs.Str.{chars}
use Rattle.std.proofs.lemmas.Str.{chars-append, IsUtf8-string_bytes}
use Rattle.wd_json.proofs.text.WdText.extend.Goals as goal

pub returns-clause-ok : goal.returns-clause-ok
returns-clause-ok c =
    let old = c.self.inside.text in
    ap chars c.in_ok-push_str.ensures.bytes ∙ chars-append (string_bytes old) c.args.text.now (IsUtf8-string_bytes old) ∙ ap (λ cs. cs ++ chars c.args.text.now) c.self.view_is
