use Rattle.command_line.proofs.Exact.{spell_one}
use Rattle.command_line.proofs.reading.words_spell_one.Goals as goal

pub returns : goal.returns
returns c = spell_one
