use Rattle.std.proofs.Common.{◌∙◌, ap₂}
use Rattle.clap.specs.Words.{found_of}
use Rattle.clap.proofs.WalkLemmas.{first_value-rows}
use Rattle.command_line.specs.Given.{given}
use Rattle.command_line.proofs.found.given_in.Goals as goal

pub returns : goal.returns
returns c = ap₂ given c.in_ok-values_in.ensures (c.get_str.ensures ∙ first_value-rows (found_of c.args.found.now) _)
