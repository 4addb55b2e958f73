use Rattle.std.proofs.Common.{lit<, rules}
use Rattle.std.proofs.lemmas.Iterator.Search.{position_from_yields_List}
use Rattle.std.proofs.lemmas.Iterator.Splits.{YieldsList-from_str_split}
use Rattle.endpoints.specs.Path.{same_text}
use Rattle.endpoints.proofs.variables.place_of.Goals as goal

pub returns : goal.returns
returns c =
    position_from_yields_List (λ part. same_text part c.args.variable.now) _ _ _ c.position.ensures.ran
    (YieldsList-from_str_split 47 c.args.pattern.now (lit< tt) c.split.ensures.text c.split.ensures.has_more c.split.ensures.pattern)
    (λ x b q h. search rules)
