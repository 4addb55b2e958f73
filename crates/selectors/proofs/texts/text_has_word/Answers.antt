use Rattle.std.proofs.Common.{◌≡◌, sym, ap, ◌∙◌}
use Rattle.std.specs.Str.{encode_utf8_all, chars}
use Rattle.std.proofs.lemmas.Str.{encodes-chars}
use Rattle.selectors.specs.Texts.{has_word}
use Rattle.selectors.proofs.texts.text_has_word.Goals as goal

pub returns : goal.returns
returns c =
    let word : c.as_bytes-2.result.now ≡ encode_utf8_all c.args.word.now = c.as_bytes-2.ensures.value ∙ c.as_str.ensures.bytes in
    let value : c.as_bytes.result.now ≡ encode_utf8_all (chars c.args.value.now) = c.as_bytes.ensures.value ∙ sym (encodes-chars c.args.value.now c.utf8.value) in
    c.has_word.ensures ∙ ap (λ w. has_word w c.as_bytes.result.now) word ∙ ap (λ v. has_word (encode_utf8_all c.args.word.now) v) value
