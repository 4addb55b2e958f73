-- The list of commands has each: it is found there by its name.
use Rattle.std.proofs.Common.{◌≡◌, ◌≢◌, ℕ, Bool, true, false, List, [], ◌∷◌, Option, Some, None, IfNone, cond, refl, sym, ap, subst, ◌∙◌, ◌&&◌, rules}
use Rattle.std.specs.List.{find, list_all}
use Rattle.std.specs.Option.{option_map}
use Rattle.endpoints.specs.declared.command.Command.{Command}
use Rattle.endpoints.specs.declared.table.TheConstants.{COMMANDS}
use Rattle.endpoints.specs.Table.{row_of}
use Rattle.endpoints.specs.Path.{same_text}

abbrev pub has_name : List ℕ → Command → Bool
has_name name c = same_text (row_of c).name name

-- the first command with this name
abbrev pub command_with : List ℕ → Option Command
command_with name = find (has_name name) COMMANDS

pub command_with-name : (command : Command) → command_with (row_of command).name ≡ Some command
command_with-name command = search rules

-- where nothing is found, no command has the name
pub no_command : (name : List ℕ) (result : Option Command) → option_map (λ x. x) result ≡ command_with name
    → IfNone result ((command : Command) → (row_of command).name ≢ name)
no_command name (Some command) e = tt
no_command name None e = λ command n. cc (e, command_with-name command, ap command_with n)

pub same_name : (a b : Command) → (row_of a).name ≡ (row_of b).name → a ≡ b
same_name a b n =
    let e : Some a ≡ Some b = sym (command_with-name a) ∙ ap command_with n ∙ command_with-name b in
    cc

-- what is found in a list passes each test that all of it pass
pub found-passes : {X : Type 0} (test search : X → Bool) (xs : List X) (x : X) → list_all test xs ≡ true → find search xs ≡ Some x → test x ≡ true
found-passes test search [] x e f = cc
found-passes {X} test search (y ∷ ys) x e f = by (test y) (search y) refl e f (found-passes test search ys x)
  where
    by : (v w : Bool) → test y ≡ v → (v && list_all test ys) ≡ true → cond w (Some y) (find search ys) ≡ Some x
        → (list_all test ys ≡ true → find search ys ≡ Some x → test x ≡ true) → test x ≡ true
    by true true t e f ih = let s : y ≡ x = cc in subst (λ z. test z ≡ true) s t
    by true false t e f ih = ih e f
    by false w t e f ih = cc

-- a law of all commands, by computation over the list
pub law : (test : Command → Bool) → list_all test COMMANDS ≡ true → (c : Command) → test c ≡ true
law test e c = found-passes test (has_name (row_of c).name) COMMANDS c e (command_with-name c)
