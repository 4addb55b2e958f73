-- What words give: the options with their values, in the order of the words, and a positional.
use Rattle.std.specs.Prelude.{ℕ, List, [], Option, None, map, find}
use Rattle.std.specs.Option.{option_copied, option_map}
use Rattle.std.specs.Str.{bytes_eq}
use Rattle.command_line.specs.declared.matches.Matches.{Matches}

pub record Given : Type 0 where
  pub values : List (List ℕ × List ℕ)
  pub positional : Option (List ℕ)

abbrev pub given : List (List ℕ × List ℕ) → Option (List ℕ) → Given
given values positional = record { values = values; positional = positional }

abbrev pub given_of : Matches → Given
given_of m = given (map (λ p. (p.0.now, p.1.now)) m.values.items) (option_copied m.positional)

abbrev pub nothing_given : Given
nothing_given = given [] None

-- the value of an option, where it is given
abbrev pub value_in : List ℕ → List (List ℕ × List ℕ) → Option (List ℕ)
value_in option values = option_map (λ p. p.1) (find (λ p. bytes_eq p.0 option) values)

abbrev pub value_of : List ℕ → Given → Option (List ℕ)
value_of option g = value_in option g.values
