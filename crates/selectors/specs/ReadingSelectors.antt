-- The selector that a text is, read from left to right.
use Rattle.std.specs.Prelude.{ℕ, Bool, not, ◌==◌, Option, Some, None, List, [], ◌∷◌, cond}
use Rattle.std.specs.List.{list_any}
use Rattle.selectors.specs.Characters.{is_white, begins}
use Rattle.selectors.specs.Grammar.{is_end}
use Rattle.selectors.specs.Reading.{after_white}
use Rattle.selectors.specs.ReadingSimples.{◌>>=◌, behind_character, row_at, in_front, compound_at, simple_at}
use Rattle.selectors.specs.declared.selector.Simple.{Simple}
use Rattle.selectors.specs.declared.selector.Combinator.{Combinator}
use Rattle.selectors.specs.declared.selector.Combinator.TheVariants.{Descendant, Child, Next, Later}
use Rattle.selectors.specs.declared.selector.Complex.{Complex}

abbrev pub sign_of : ℕ → Option Combinator
sign_of c = cond (c == 62) (Some Child) (cond (c == 43) (Some Next) (cond (c == 126) (Some Later) None))

-- the compound on the right of a combinator
unfoldable pub right_at : Combinator → List ℕ → Option ((Combinator × List Simple) × List ℕ)
right_at combinator text = do
  simples ← compound_at simple_at (after_white text)
  Some ((combinator, simples.0), simples.1)

-- behind white space, one or more where blank is true
abbrev pub joined_by : Bool → Option Combinator → ℕ → List ℕ → Option ((Combinator × List Simple) × List ℕ)
joined_by blank (Some combinator) c text = right_at combinator text
joined_by blank None c text = cond blank (right_at Descendant (c ∷ text)) None

abbrev pub join_behind : Bool → List ℕ → Option ((Combinator × List Simple) × List ℕ)
join_behind blank [] = None
join_behind blank (c ∷ text) = joined_by blank (sign_of c) c text

unfoldable pub join_at : List ℕ → Option ((Combinator × List Simple) × List ℕ)
join_at text = join_behind (begins is_white text) (after_white text)

-- a further compound is joined
abbrev pub goes_on : List ℕ → Bool
goes_on text = not (is_end (after_white text))

-- white space, compounds joined by combinators, and white space
unfoldable pub alternative_at : List ℕ → Option (Complex × List ℕ)
alternative_at text = do
  first ← compound_at simple_at (after_white text)
  joins ← row_at goes_on join_at first.1
  Some (record { first = first.0; rest = joins.0 }, after_white joins.1)

-- behind a ','
unfoldable pub next_at : List ℕ → Option (Complex × List ℕ)
next_at text = do
  middle ← behind_character 44 text
  alternative_at middle

abbrev pub has_more : List ℕ → Bool
has_more text = begins (λ c. c == 44) text

unfoldable pub alternatives_at : List ℕ → Option (List Complex)
alternatives_at text = do
  first ← alternative_at text
  others ← in_front (first.0 ∷ []) (row_at has_more next_at first.1)
  Some others.0

-- the selector that a text is
unfoldable pub selector_in : List ℕ → Option (List Complex)
selector_in text = cond (list_any (λ c. c == 0) text) None (alternatives_at text)
