-- What closing a prompt does to the document that opened it: a line in its log, then the list of the answer.
use Rattle.std.specs.Prelude.{ℕ, Bool, List, ◌++◌, codes, if◌then◌else◌}
use Rattle.page_engine.specs.Effects.{effects_on}
use Rattle.page_engine.specs.Fitting.{answering}
use Rattle.page_engine.specs.Lines.{logged}
use Rattle.page_engine.specs.Scene.{Scene}
use Rattle.page_engine.specs.declared.effect.Effect.{Effect}
use Rattle.page_engine.specs.declared.effect.Prompt.{Prompt}

-- `accept` with the answer, or `dismiss`
abbrev pub closing_line : Prompt → Bool → List ℕ
closing_line prompt accepted = if accepted then codes "accept " ++ prompt.answer else codes "dismiss"

abbrev pub closing_effects : Prompt → Bool → List Effect
closing_effects prompt accepted = if accepted then prompt.accepted else prompt.dismissed

abbrev pub prompt_closed : ℕ → Prompt → Bool → Scene → Scene
prompt_closed now prompt accepted s =
    effects_on (record { now = now; first = 0 }) answering (record s { log = logged (closing_line prompt accepted) s.log }) (closing_effects prompt accepted)
