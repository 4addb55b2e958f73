use Rattle.std.proofs.Common.{◌≡◌, true, ◌∙◌, sym, ap, subst}
use Rattle.std.specs.Str.{all_scalars, encode_utf8_all}
use Rattle.std.proofs.lemmas.Str.{encodes-chars, scalars-chars, IsUtf8-string_bytes}
use Rattle.wd_json.proofs.text.WdText.as_str.Goals as goal

pub returns-clause-bytes : goal.returns-clause-bytes
returns-clause-bytes c =
    c.as_str.ensures.value ∙ sym (encodes-chars _ (IsUtf8-string_bytes c.self.inside.text)) ∙ ap encode_utf8_all c.self.view_is

pub returns-clause-scalars : goal.returns-clause-scalars
returns-clause-scalars c = subst (λ cs. all_scalars cs ≡ true) c.self.view_is (scalars-chars _ (IsUtf8-string_bytes c.self.inside.text))
