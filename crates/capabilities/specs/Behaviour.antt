-- What is done with a user prompt that is open when a command comes, by its text.
use Rattle.std.specs.Prelude.{ℕ, List, [], ◌∷◌, Option, codes}
use Rattle.std.specs.List.{find}
use Rattle.std.specs.Option.{option_and_then}
use Rattle.capabilities.specs.Values.{same_text, text_of}
use Rattle.capabilities.specs.declared.behaviour.Behaviour.{Behaviour}
use Rattle.capabilities.specs.declared.behaviour.Behaviour.TheVariants.{Dismiss, Accept, DismissNotify, AcceptNotify, Ignore}
use Rattle.wd_json.specs.declared.value.Json.{Json}

abbrev pub behaviour_text : Behaviour → List ℕ
behaviour_text Dismiss = codes "dismiss"
behaviour_text Accept = codes "accept"
behaviour_text DismissNotify = codes "dismiss and notify"
behaviour_text AcceptNotify = codes "accept and notify"
behaviour_text Ignore = codes "ignore"

abbrev pub all_behaviours : List Behaviour
all_behaviours = Dismiss ∷ Accept ∷ DismissNotify ∷ AcceptNotify ∷ Ignore ∷ []

abbrev pub behaviour_with : List ℕ → Option Behaviour
behaviour_with text = find (λ b. same_text (behaviour_text b) text) all_behaviours

abbrev pub behaviour_of : Json → Option Behaviour
behaviour_of v = option_and_then behaviour_with (text_of v)
