use Rattle.std.proofs.Common.{sym, ap, ◌∙◌}
use Rattle.capabilities.specs.Values.{value_of}
use Rattle.capabilities.specs.Choice.{or_else, given}
use Rattle.capabilities.proofs.Merges.{value-merge}
use Rattle.capabilities.proofs.merge.merged_value.Goals as goal

pub returns-in-Some : goal.returns-in-Some
returns-in-Some c =
    sym (value-merge c.args.name.now c.args.always.now c.args.first.now ∙ ap (λ o. or_else o (value_of c.args.name.now (given c.args.first.now))) (sym c.in-Some.ensures))

pub returns-in-None : goal.returns-in-None
returns-in-None c =
    c.given_value-in-None.ensures ∙ sym (value-merge c.args.name.now c.args.always.now c.args.first.now ∙ ap (λ o. or_else o (value_of c.args.name.now (given c.args.first.now))) (sym c.in-None.ensures))
