use Rattle.std.proofs.lemmas.Str.Pattern.{contains_text}
use Rattle.selectors.specs.Passes.{holds}
use Rattle.selectors.proofs.Bools.{bools_same}
use Rattle.selectors.proofs.Substrings.{holds_from, holds_to}
use Rattle.selectors.proofs.attributes.holds.Goals as goal

pub returns : goal.returns
returns c =
    let text = c.args.text.now in
    let value = c.args.value.now in
    let found = contains_text c.contains.result text value c.contains.ensures.cases in
    bools_same c.contains.result (holds text value) (λ t. let s = found.0 t in holds_to text value s.0 s.1 s.2) (λ t. found.1 (holds_from text value t))
