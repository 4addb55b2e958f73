use Rattle.std.proofs.Common.{sym, ap, ◌∙◌}
use Rattle.std.specs.Str.{encode_utf8_all}
use Rattle.std.proofs.lemmas.Str.{encodes-chars}
use Rattle.std.proofs.lemmas.Str.Pattern.{contains_text}
use Rattle.selectors.specs.Passes.{holds}
use Rattle.selectors.proofs.Bools.{bools_same}
use Rattle.selectors.proofs.Substrings.{holds_from, holds_to}
use Rattle.interaction.proofs.finding.holds.Goals as goal

pub returns : goal.returns
returns c =
    let text = c.args.text.now in
    let value = c.as_str.result.now in
    let found = contains_text c.contains.result text value c.contains.ensures.cases in
    bools_same c.contains.result (holds text value) (λ t. let s = found.0 t in holds_to text value s.0 s.1 s.2) (λ t. found.1 (holds_from text value t))
    ∙ ap (holds text) c.as_str.ensures.bytes
    ∙ ap (λ t. holds t (encode_utf8_all c.args.rendered.now)) (sym (encodes-chars text c.utf8.text))
