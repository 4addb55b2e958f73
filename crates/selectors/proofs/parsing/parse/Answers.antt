use Rattle.std.proofs.Common.{◌≡◌, ◌∙◌, sym, Some, None, rules}
use Rattle.std.specs.Str.{chars}
use Rattle.std.proofs.lemmas.Option.{none-some}
use Rattle.selectors.specs.ReadingSelectors.{selector_in}
use Rattle.selectors.proofs.Alternatives.{selector_finds, selector_sound}
use Rattle.selectors.proofs.RulesKept.{selector_rules}
use Rattle.selectors.proofs.parsing.parse.Goals as goal

pub returns-in-Some-clause-read : goal.returns-in-Some-clause-read
returns-in-Some-clause-read c =
    let found : selector_in (chars c.args.text.now) ≡ Some c.in-Some.selector = search rules in
    selector_sound (chars c.args.text.now) c.in-Some.selector found

pub returns-in-None-clause-cause : goal.returns-in-None-clause-cause
returns-in-None-clause-cause c =
    let missing : selector_in (chars c.args.text.now) ≡ None = search rules in
    λ selector h. none-some selector (sym missing ∙ selector_finds (chars c.args.text.now) selector h)

pub returns-in-Some-clause-rules : goal.returns-in-Some-clause-rules
returns-in-Some-clause-rules c =
    let found : selector_in (chars c.args.text.now) ≡ Some c.in-Some.selector = search rules in
    selector_rules (chars c.args.text.now) c.in-Some.selector (selector_sound (chars c.args.text.now) c.in-Some.selector found)
