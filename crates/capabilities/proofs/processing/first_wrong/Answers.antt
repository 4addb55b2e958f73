use Rattle.std.proofs.Common.{sym, ap, ◌∙◌}
use Rattle.std.specs.Option.{option_copied}
use Rattle.capabilities.proofs.Merges.{wrong_name-second, wrong_name-third}
use Rattle.capabilities.proofs.processing.first_wrong.Goals as goal

pub returns-in-Some-wrong_of : goal.returns-in-Some-wrong_of
returns-in-Some-wrong_of c = wrong_name-second c.args.always.now c.args.firsts.now _ (sym c.wrong_name.ensures ∙ ap option_copied c.in_default.is) c.in-Some-wrong_of.ensures

pub returns-in-None : goal.returns-in-None
returns-in-None c = wrong_name-third c.args.always.now c.args.firsts.now _ (sym c.wrong_name.ensures ∙ ap option_copied c.in_default.is) (sym c.in-None.ensures) c.doubled_of.ensures
