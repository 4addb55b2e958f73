-- The command of these options as clap builds it, and which of its arguments a name, a letter or a place means.
use Rattle.std.proofs.Common.{◌≡◌, ◌++◌, ◌∙◌, ◌||◌, ℕ, List, [], ◌∷◌, Bool, true, false, Some, None, if◌then◌else◌, map, refl, sym, ap, cond}
use Rattle.std.specs.List.{list_all, list_any, find}
use Rattle.std.specs.Str.{bytes_eq}
use Rattle.std.proofs.lemmas.List.{append_assoc, append-nil}
use Rattle.std.proofs.lemmas.Slice.Eq.{bytes_eq-Decides}
use Rattle.clap.specs.Walk.{Rule, arg_by_id, arg_by_index, arg_by_long, arg_by_short}
use Rattle.clap.specs.Simple.{App, Shape, built, filled, filled_from, with_index, with_rule}
use Rattle.command_line.specs.Words.{is_empty}
use Rattle.command_line.specs.Command.{app_with, bare_app, option_rule, rule_with_value, with_option, with_options}

abbrev pub Texts : Type 0
Texts = List (List ℕ)

-- the names that aren't empty
abbrev pub named : Texts → Texts
named [] = []
named (name ∷ names) = if is_empty name then named names else name ∷ named names

-- ---- the command

abbrev with_rules : List Rule → App → App
with_rules more app = record app { top = record app.top { rules = app.top.rules ++ more } }

abbrev pub app_of_names : Texts → App
app_of_names names = record bare_app { top = record bare_app.top { rules = rule_with_value [] ∷ map option_rule names } }

options_are : (names : Texts) (app : App) → with_options names app ≡ with_rules (map option_rule (named names)) app
options_are [] app = ap (λ (more : List Rule). record app { top = record app.top { rules = more } }) (sym (append-nil app.top.rules))
options_are (name ∷ names) app = options_are names (with_option name app) ∙ go (is_empty name)
  where
    go : (b : Bool) → with_rules (map option_rule (named names)) (if b then app else with_rule app (option_rule name))
        ≡ with_rules (map option_rule (if b then named names else name ∷ named names)) app
    go true = refl
    go false = ap (λ (more : List Rule). record app { top = record app.top { rules = more } }) (append_assoc app.top.rules (option_rule name ∷ []) (map option_rule (named names)))

pub app_is : (names : Texts) → app_with names ≡ app_of_names (named names)
app_is names = options_are names (with_rule bare_app (rule_with_value []))

-- ---- as it is built

abbrev pub positional : Rule
positional = with_index 1 (filled (rule_with_value []))

abbrev pub option : List ℕ → Rule
option name = filled (option_rule name)

abbrev pub rules : Texts → List Rule
rules names = positional ∷ map option names

abbrev pub shape_with : List Rule → Shape
shape_with more = record (built (app_of_names [])).top { rules = more }

abbrev pub built_app : Texts → App
built_app names = record (app_of_names []) { top = shape_with (rules names) }

options_filled : (names : Texts) → filled_from 2 (map option_rule names) ≡ map option names
options_filled [] = refl
options_filled (name ∷ names) = ap (λ (more : List Rule). option name ∷ more) (options_filled names)

pub built_is : (names : Texts) → built (app_of_names names) ≡ built_app names
built_is names = ap (λ (more : List Rule). record (app_of_names []) { top = shape_with (positional ∷ more) }) (options_filled names)

-- ---- it is simple

pub each_option : (p : Rule → Bool) → ((name : List ℕ) → p (option name) ≡ true) → (names : Texts) → list_all p (map option names) ≡ true
each_option p h [] = refl
each_option p h (name ∷ names) = rw (h name) (each_option p h names)

pub no_option : (p : Rule → Bool) → ((name : List ℕ) → p (option name) ≡ false) → (names : Texts) → list_any p (map option names) ≡ false
no_option p h [] = refl
no_option p h (name ∷ names) = rw (h name) (no_option p h names)

-- ---- which argument is meant

none_found : (p : Rule → Bool) → ((name : List ℕ) → p (option name) ≡ false) → (names : Texts) → find p (map option names) ≡ None
none_found p h [] = refl
none_found p h (name ∷ names) = rw (h name) (none_found p h names)

abbrev pub is_listed : Texts → List ℕ → Bool
is_listed names name = list_any (λ other. bytes_eq other name) names

option_found : (p : Rule → Bool) (name : List ℕ) → ((other : List ℕ) → p (option other) ≡ bytes_eq other name) → (names : Texts)
    → find p (map option names) ≡ (if is_listed names name then Some (option name) else None)
option_found p name h [] = refl
option_found p name h (other ∷ names) = rw (h other) (go (bytes_eq other name) refl (option_found p name h names))
  where
    go : (b : Bool) → bytes_eq other name ≡ b → find p (map option names) ≡ (if is_listed names name then Some (option name) else None)
        → cond b (Some (option other)) (find p (map option names)) ≡ (if b || is_listed names name then Some (option name) else None)
    go true e further = ap (λ (n : List ℕ). Some (option n)) ((bytes_eq-Decides other name).0 e)
    go false e further = further

or_false : (b : Bool) → (b || false) ≡ b
or_false true = refl
or_false false = refl

pub by_long : (names : Texts) (name : List ℕ) → arg_by_long (rules names) name ≡ (if is_listed names name then Some (option name) else None)
by_long names name = option_found _ name (λ other. or_false (bytes_eq other name)) names

pub by_id : (names : Texts) (name : List ℕ) → bytes_eq [] name ≡ false → arg_by_id (rules names) name ≡ (if is_listed names name then Some (option name) else None)
by_id names name e = rw e (option_found _ name (λ other. refl) names)

pub by_letter : (names : Texts) (letter : ℕ) → arg_by_short (rules names) letter ≡ None
by_letter names letter = none_found _ (λ name. refl) names

pub by_place : (names : Texts) → arg_by_index (rules names) 2 ≡ None
by_place names = none_found _ (λ name. refl) names
