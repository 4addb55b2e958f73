use Rattle.std.proofs.Common.{rules}
use Rattle.std.proofs.lemmas.Str.{encodes-chars}
use Rattle.selectors.proofs.texts.spells.Goals as goal

pub returns : goal.returns
returns c = rw (encodes-chars c.args.own.now c.utf8.own) (search rules)
