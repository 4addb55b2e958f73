-- The command that has these options, as clap sees it, and what the rows that it finds give.
use Rattle.std.specs.Prelude.{ℕ, List, [], ◌∷◌, Option, Some, None, true, map, if◌then◌else◌}
use Rattle.std.specs.List.{flat_map}
use Rattle.clap.specs.Words.{App, Row, Rule, first_of, new_app, new_rule, with_rule}
use Rattle.clap.specs.declared.builder.ArgAction.TheVariants.{Set}
use Rattle.clap.specs.declared.builder.ValueParser.TheVariants.{NonEmptyString}
use Rattle.command_line.specs.Given.{Given, given}
use Rattle.command_line.specs.Words.{is_empty}

-- an argument that has one value, which isn't empty
abbrev pub rule_with_value : List ℕ → Rule
rule_with_value id = record (new_rule id) { action = Some Set; parser = Some NonEmptyString }

-- the option of this name
abbrev pub option_rule : List ℕ → Rule
option_rule name = record (rule_with_value name) { long = Some name }

-- a command with one more option; a name that is empty names none
abbrev pub with_option : List ℕ → App → App
with_option name app = if is_empty name then app else with_rule app (option_rule name)

abbrev pub with_options : List (List ℕ) → App → App
with_options [] app = app
with_options (name ∷ names) app = with_options names (with_option name app)

-- a command without the program's name among its words, and without help
abbrev pub bare_app : App
bare_app = record (new_app []) { top = record (new_app []).top { no_binary_name = true; disable_help_flag = true } }

-- one positional, whose id is empty, and these options
abbrev pub app_with : List (List ℕ) → App
app_with names = with_options names (with_rule bare_app (rule_with_value []))

-- the option of this id, with its value, where it has one
abbrev pub value_with : List ℕ → Option (List ℕ) → List (List ℕ × List ℕ)
value_with id None = []
value_with id (Some value) = if is_empty id then [] else (id, value) ∷ []

-- the options of these ids, and of all rows
abbrev pub values_at : List Row → List (List ℕ) → List (List ℕ × List ℕ)
values_at rows ids = flat_map (λ id. value_with id (first_of id rows)) ids

abbrev pub values_in : List Row → List (List ℕ × List ℕ)
values_in rows = values_at rows (map (λ row. row.id) rows)

-- what the rows give
abbrev pub given_in : List Row → Given
given_in rows = given (values_in rows) (first_of [] rows)
