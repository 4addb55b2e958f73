use Rattle.std.proofs.Common.{refl, codes}
use Rattle.references.specs.Keys.{shadow_key}
use Rattle.wd_json.proofs.Texts.{ascii_text}
use Rattle.references.proofs.keys.shadow_key.Goals as goal

pub returns-clause-text : goal.returns-clause-text
unfolding shadow_key
returns-clause-text c = refl

pub returns-clause-ascii : goal.returns-clause-ascii
returns-clause-ascii c = ascii_text (codes "shadow-6066-11e4-a52e-4f735466cecf") refl
