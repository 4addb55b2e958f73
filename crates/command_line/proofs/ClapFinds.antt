-- What clap's parse of the command with these options finds, and when it fails.
use Rattle.std.proofs.Common.{◌≡◌, ◌∙◌, ◌&&◌, ◌||◌, ℕ, List, [], ◌∷◌, Bool, true, false, not, Option, Some, None, is_some, if◌then◌else◌, map, fold, inl, inr, refl, sym, ap, ap₂, subst}
use Rattle.std.specs.List.{list_all}
use Rattle.std.specs.Prelude.{count_by}
use Rattle.std.specs.Str.{all_scalars, encode_utf8_all}
use Rattle.clap.specs.Kinds.{HasKind, Kinds, or_else}
use Rattle.clap.specs.Values.{kind_of}
use Rattle.clap.specs.Takes.{is_given}
use Rattle.clap.specs.declared.error.Error.{Error}
use Rattle.clap.specs.declared.error.ErrorKind.TheVariants.{OutOfMemory}
use Rattle.clap.specs.Walk.{Held, Row, Rule, finished, has_row, is_early_multiple, nothing_held, rows_after, settled, walk, walk_from, with_default}
use Rattle.clap.specs.Simple.{App, Shape, built, is_buildable, is_ready, is_ready_leaf, is_simple, matches_of, names_of}
use Rattle.clap.specs.Faults.{built_fault, check_fault, default_fault, defaults_fault, fault_of, has_free_rules, is_free_app, is_simple_and_free, level_fault, walk_fault}
use Rattle.clap.proofs.FaultLemmas.{leaf_fault}
use Rattle.command_line.specs.Given.{Given}
use Rattle.command_line.specs.Reading.{given_by}
use Rattle.command_line.specs.Command.{app_with, given_in, option_rule}
use Rattle.command_line.proofs.AppLemmas.{Texts, app_is, app_of_names, built_app, built_is, each_option, named, no_option, option, rules, shape_with}
use Rattle.command_line.proofs.WalkReads.{fault, found_is, unless, unless_first}
use Rattle.command_line.proofs.FaultStays.{AreTexts}
use Rattle.command_line.proofs.ClapReads.{found_is_read}
use Rattle.command_line.proofs.LookLemmas.{is_both}

-- ---- nothing has a default, and nothing is required

no_default_fault : (rows : List Row) (name : List ℕ) → default_fault rows (option name) ≡ []
no_default_fault rows name = go (has_row name rows)
  where
    nothing : Kinds
    nothing = []

    go : (b : Bool) → (if b || true then nothing else nothing) ≡ nothing
    go true = refl
    go false = refl

no_default : (rows : List Row) (name : List ℕ) → with_default rows (option name) ≡ rows
no_default rows name = go (has_row name rows)
  where
    go : (b : Bool) → (if b then rows else rows) ≡ rows
    go true = refl
    go false = refl

no_defaults : (names : Texts) (rows : List Row) → fold with_default rows (map option names) ≡ rows
no_defaults [] rows = refl
no_defaults (name ∷ names) rows = ap (λ (rs : List Row). fold with_default rs (map option names)) (no_default rows name) ∙ no_defaults names rows

no_option_faults : (names : Texts) (rows : List Row) → defaults_fault rows (map option names) ≡ []
unfolding defaults_fault
no_option_faults [] rows = refl
no_option_faults (name ∷ names) rows =
    ap₂ (λ (f : Kinds) (rs : List Row). or_else f (defaults_fault rs (map option names))) (no_default_fault rows name) (no_default rows name) ∙ no_option_faults names rows

no_default_faults : (names : Texts) (rows : List Row) → defaults_fault rows (rules names) ≡ []
unfolding defaults_fault
no_default_faults names rows =
    ap₂ (λ (f : Kinds) (rs : List Row). or_else f (defaults_fault rs (map option names))) (no_default_fault rows []) (no_default rows []) ∙ no_option_faults names rows

finished_is : (names : Texts) (h : Held) → finished (rules names) h ≡ (settled (rules names) h).rows
finished_is names h =
    ap (λ (rs : List Row). fold with_default rs (map option names)) (no_default (settled (rules names) h).rows []) ∙ no_defaults names (settled (rules names) h).rows

none_required : (names : Texts) (rows : List Row) → check_fault (shape_with (rules names)) rows false ≡ []
none_required names rows = rw (no_option (λ a. a.required && not (is_given a.id rows)) (λ name. refl) names) refl

-- ---- the command is simple

all_true : (a b : Bool) → a ≡ true → b ≡ true → (a && b) ≡ true
all_true true b e f = f
all_true false b e f = absurd (cc (e))

each_rule : (p : Rule → Bool) → ((name : List ℕ) → p (option_rule name) ≡ true) → (names : Texts) → list_all p (map option_rule names) ≡ true
each_rule p h [] = refl
each_rule p h (name ∷ names) = rw (h name) (each_rule p h names)

buildable : (names : Texts) → is_buildable (app_of_names names) ≡ true
buildable names = rw (each_rule (λ a. a.is_simple) (λ name. refl) names) refl

ready : (names : Texts) → is_ready (shape_with (rules names)) ≡ true
ready names =
    let early = is_early_multiple (count_by (λ (a : Rule). is_some a.index) (rules names)) in
    rw (each_option (λ a. a.is_simple) (λ name. refl) names, no_option early (λ name. refl) names) refl

free : (names : Texts) → has_free_rules (shape_with (rules names)) ≡ true
free names = rw (each_option (λ a. a.is_free) (λ name. refl) names) refl

simple_built : (names : Texts) → is_simple_and_free (app_of_names names) ≡ true
simple_built names =
    let ready_app : App → Bool = λ a. is_ready a.top && list_all is_ready_leaf a.subs in
    let is_ready_app : ready_app (built (app_of_names names)) ≡ true =
    ap ready_app (built_is names) ∙ all_true (is_ready (shape_with (rules names))) true (ready names) refl in
    let is_free_there : is_free_app (built (app_of_names names)) ≡ true =
    ap is_free_app (built_is names) ∙ all_true (has_free_rules (shape_with (rules names))) true (free names) refl in
    all_true (is_simple (app_of_names names)) (is_free_app (built (app_of_names names)))
    (all_true (is_buildable (app_of_names names)) (ready_app (built (app_of_names names))) (buildable names) is_ready_app) is_free_there

pub simple : (options : Texts) → is_simple_and_free (app_with options) ≡ true
simple options = ap is_simple_and_free (app_is options) ∙ simple_built (named options)

pub simple_app : (options : Texts) → is_simple (app_with options) ≡ true
simple_app options = (is_both (is_simple (app_with options)) (is_free_app (built (app_with options))) (simple options)).0

-- ---- what is found

abbrev end_of : Texts → Texts → Held
end_of names words = (walk (rules names) [] nothing_held words).held

fault_is : (names words : Texts) → fault_of (app_of_names names) words ≡ level_fault (shape_with (rules names)) [] nothing_held words false []
fault_is names words = ap (λ (a : App). built_fault a nothing_held words) (built_is names) ∙ leaf_fault (built_app names) nothing_held words refl

rows_are : (names words : Texts) → matches_of (app_of_names names) words ≡ (settled (rules names) (end_of names words)).rows
rows_are names words = ap (λ (a : App). rows_after a.top.rules (names_of a) words) (built_is names) ∙ finished_is names (end_of names words)

level_is : (names words : Texts) (found : Option Given) → unless (level_fault (shape_with (rules names)) [] nothing_held words false []) found
    ≡ unless (or_else (walk_fault (shape_with (rules names)) [] (walk_from nothing_held) words) (fault names (end_of names words))) found
level_is names words found =
    let s : Shape = shape_with (rules names) in
    let h : Held = end_of names words in
    let walking : Kinds = walk_fault s [] (walk_from nothing_held) words in
    let defaults : Kinds = defaults_fault (settled (rules names) h).rows (rules names) in
    let checks : Kinds = check_fault s (finished (rules names) h) false in
    ap₂ (λ (d c : Kinds). unless (or_else walking (or_else (fault names h) (or_else d c))) found)
    (no_default_faults names (settled (rules names) h).rows) (none_required names (finished (rules names) h))
    ∙ unless_first walking (or_else (fault names h) []) found
    ∙ ap (unless walking) (unless_first (fault names h) [] found)
    ∙ sym (unless_first walking (fault names h) found)

pub clap_finds : (options words : Texts) → AreTexts words → unless (fault_of (app_with options) words) (Some (given_in (matches_of (app_with options) words))) ≡ given_by options words
clap_finds options words t =
    let names : Texts = named options in
    let found : Option Given = Some (given_in (settled (rules names) (end_of names words)).rows) in
    ap (λ (a : App). unless (fault_of a words) (Some (given_in (matches_of a words)))) (app_is options)
    ∙ ap₂ (λ (f : Kinds) (rs : List Row). unless f (Some (given_in rs))) (fault_is names words) (rows_are names words)
    ∙ level_is names words found
    ∙ found_is names words (walk_from nothing_held)
    ∙ found_is_read options words t

-- where the parse succeeds
pub given_where_found : (options words : Texts) → AreTexts words → (app : App) (texts : Texts) (rows : List Row) → app ≡ app_with options → texts ≡ words
    → (is_simple_and_free app ≡ true → fault_of app texts ≡ []) → (is_simple app ≡ true → rows ≡ matches_of app texts) → Some (given_in rows) ≡ given_by options words
given_where_found options words t app texts rows e f kinds matches =
    let none_fails : fault_of (app_with options) words ≡ [] = ap₂ fault_of (sym e) (sym f) ∙ kinds (ap is_simple_and_free e ∙ simple options) in
    ap (λ (rs : List Row). Some (given_in rs)) (matches (ap is_simple e ∙ simple_app options) ∙ ap₂ matches_of e f)
    ∙ sym (ap (λ (k : Kinds). unless k (Some (given_in (matches_of (app_with options) words)))) none_fails) ∙ clap_finds options words t

none_where : (kinds : Kinds) (found : Option Given) (e : Error) → HasKind kinds e → (kind_of e ≡ OutOfMemory → ⊥) → None ≡ unless kinds found
none_where [] found e (inl h) other = absurd (other h)
none_where [] found e (inr h) other = absurd h
none_where (k ∷ kinds) found e h other = refl

-- where it fails
pub none_where_failed : (options words : Texts) → AreTexts words → (app : App) (texts : Texts) (error : Error) → app ≡ app_with options → texts ≡ words
    → (is_simple_and_free app ≡ true → HasKind (fault_of app texts) error) → (kind_of error ≡ OutOfMemory → ⊥) → None ≡ given_by options words
none_where_failed options words t app texts error e f kinds other =
    let failed = subst (λ (k : Kinds). HasKind k error) (ap₂ fault_of e f) (kinds (ap is_simple_and_free e ∙ simple options)) in
    none_where (fault_of (app_with options) words) (Some (given_in (matches_of (app_with options) words))) error failed other ∙ clap_finds options words t

-- ---- the words are texts

pub texts_are : (words : Texts) → list_all all_scalars words ≡ true → AreTexts (map encode_utf8_all words)
texts_are [] e = tt
texts_are (word ∷ words) e = go (all_scalars word) refl e (texts_are words)
  where
    go : (b : Bool) → all_scalars word ≡ b → (b && list_all all_scalars words) ≡ true
        → (list_all all_scalars words ≡ true → AreTexts (map encode_utf8_all words)) → AreTexts (map encode_utf8_all (word ∷ words))
    go true f g further = ((word, (f, refl)), further g)
    go false f g further = absurd (cc (g))
