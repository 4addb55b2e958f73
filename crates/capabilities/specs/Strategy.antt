-- The page load strategies by their texts.
use Rattle.std.specs.Prelude.{ℕ, List, [], ◌∷◌, Option, codes}
use Rattle.std.specs.List.{find}
use Rattle.std.specs.Option.{option_and_then}
use Rattle.capabilities.specs.Values.{same_text, text_of}
use Rattle.capabilities.specs.declared.strategy.Strategy.{Strategy}
use Rattle.capabilities.specs.declared.strategy.Strategy.TheVariants.{None as NoWait, Eager, Normal}
use Rattle.wd_json.specs.declared.value.Json.{Json}

abbrev pub strategy_text : Strategy → List ℕ
strategy_text NoWait = codes "none"
strategy_text Eager = codes "eager"
strategy_text Normal = codes "normal"

abbrev pub all_strategies : List Strategy
all_strategies = NoWait ∷ Eager ∷ Normal ∷ []

abbrev pub strategy_with : List ℕ → Option Strategy
strategy_with text = find (λ s. same_text (strategy_text s) text) all_strategies

abbrev pub strategy_of : Json → Option Strategy
strategy_of v = option_and_then strategy_with (text_of v)
