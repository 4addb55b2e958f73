-- What pieces and positionals give, one after another.
use Rattle.std.proofs.Common.{◌≡◌, ◌++◌, ◌∙◌, ℕ, List, [], ◌∷◌, Bool, true, false, Option, Some, None, is_some, if◌then◌else◌, refl, sym, ap, subst, arith}
use Rattle.std.specs.List.{flat_map}
use Rattle.std.specs.Option.{option_and_then}
use Rattle.std.proofs.lemmas.List.{append_assoc}
use Rattle.command_line.specs.Given.{Given, given, value_of, value_in}
use Rattle.command_line.specs.Words.{Piece, Apart, Joined, Alone, StandOnce, HaveNo, at_most_one, positionals_in, values_in}
use Rattle.command_line.specs.Reading.{put, put_positional}
use Rattle.command_line.proofs.OnceLemmas.{Values, no_value, no_value_from, once_more, none_before}

abbrev pub give : Piece → Given → Option Given
give (Apart name value) g = put name value g
give (Joined name value) g = put name value g
give (Alone value) g = put_positional value g

abbrev pub give_positionals : List (List ℕ) → Given → Option Given
give_positionals [] g = Some g
give_positionals (value ∷ values) g = option_and_then (give_positionals values) (put_positional value g)

-- pieces, and then these positionals
abbrev pub give_all : List Piece → List (List ℕ) → Given → Option Given
give_all [] behind g = give_positionals behind g
give_all (piece ∷ pieces) behind g = option_and_then (give_all pieces behind) (give piece g)

abbrev with_value : List ℕ → List ℕ → Given → Given
with_value name value g = given (g.values ++ (name, value) ∷ []) g.positional

-- ---- what is given, if all could be

put_if : (b : Bool) (g m : Given) → (if b then None else Some g) ≡ Some m → (b ≡ false) × (g ≡ m)
put_if true g m e = absurd (grind (arith, e))
put_if false g m e = (refl, grind (arith, e))

pub put_is : (name value : List ℕ) (g m : Given) → put name value g ≡ Some m → HaveNo name g.values × (with_value name value g ≡ m)
put_is name value g m e =
    let is = put_if (is_some (value_in name g.values)) (with_value name value g) m e in
    (no_value name g.values is.0, is.1)

pub put_can : (name value : List ℕ) (g : Given) → HaveNo name g.values → put name value g ≡ Some (with_value name value g)
put_can name value g h = let no : is_some (value_of name g) ≡ false = no_value_from name g.values h in rw no refl

-- what was given first, and then these
pub record Gives (g m : Given) (values : Values) (positionals : List (List ℕ)) : Type 0 where
  pub values_are : m.values ≡ g.values ++ values
  pub once : StandOnce m.values
  pub positional_is : at_most_one m.positional ≡ at_most_one g.positional ++ positionals

append_none : {A : Type 0} → (xs : List A) → xs ++ [] ≡ xs
append_none [] = refl
append_none (x ∷ xs) = ap (λ rest. x ∷ rest) (append_none xs)

-- by the positional so far
positional_cases : (value : List ℕ) (positional : Option (List ℕ)) (values : Values) (m : Given) → put_positional value (given values positional) ≡ Some m
    → (positional ≡ None) × (given values (Some value) ≡ m)
positional_cases value None values m e = (refl, grind (arith, e))
positional_cases value (Some other) values m e = absurd (grind (arith, e))

and_then_is : (f : Given → Option Given) (o : Option Given) (m : Given) → option_and_then f o ≡ Some m → (g : Given) × (o ≡ Some g) × (f g ≡ Some m)
and_then_is f None m e = absurd (grind (arith, e))
and_then_is f (Some g) m e = (g, refl, e)

positionals_give : (behind : List (List ℕ)) (g m : Given) → give_positionals behind g ≡ Some m → StandOnce g.values → Gives g m [] behind
positionals_give [] g m e once =
    let same : g ≡ m = grind (arith, e) in
    record {
      values_are = sym (append_none m.values) ∙ ap (λ (k : Given). k.values ++ []) (sym same);
      once = subst (λ (k : Given). StandOnce k.values) same once;
      positional_is = sym (append_none (at_most_one m.positional)) ∙ ap (λ (k : Given). at_most_one k.positional ++ []) (sym same);
    }
positionals_give (value ∷ values) g m e once =
    let step = and_then_is (give_positionals values) (put_positional value g) m e in
    let first = positional_cases value g.positional g.values step.0 step.1 in
    let further = positionals_give values step.0 m step.2 (subst (λ (k : Given). StandOnce k.values) first.1 once) in
    record {
      values_are = further.values_are ∙ ap (λ (k : Given). k.values ++ []) (sym first.1);
      once = further.once;
      positional_is = further.positional_is ∙ ap (λ (k : Given). at_most_one k.positional ++ values) (sym first.1)
          ∙ sym (ap (λ (o : Option (List ℕ)). at_most_one o ++ value ∷ values) first.0);
    }

put_further : (name value : List ℕ) (g after m : Given) (values : Values) (positionals : List (List ℕ)) → with_value name value g ≡ after
    → Gives after m values positionals → Gives g m ((name, value) ∷ values) positionals
put_further name value g after m values positionals same further = record {
  values_are = further.values_are ∙ ap (λ (k : Given). k.values ++ values) (sym same) ∙ append_assoc g.values ((name, value) ∷ []) values;
  once = further.once;
  positional_is = further.positional_is ∙ ap (λ (k : Given). at_most_one k.positional ++ positionals) (sym same);
}

put_once : (name value : List ℕ) (g after : Given) → HaveNo name g.values × (with_value name value g ≡ after) → StandOnce g.values → StandOnce after.values
put_once name value g after is once = subst (λ (k : Given). StandOnce k.values) is.1 (once_more name value g.values once is.0)

pub all_give : (pieces : List Piece) (behind : List (List ℕ)) (g m : Given) → give_all pieces behind g ≡ Some m → StandOnce g.values
    → Gives g m (flat_map values_in pieces) (flat_map positionals_in pieces ++ behind)
all_give [] behind g m e once = positionals_give behind g m e once
all_give (Apart name value ∷ pieces) behind g m e once =
    let step = and_then_is (give_all pieces behind) (put name value g) m e in
    let is = put_is name value g step.0 step.1 in
    put_further name value g step.0 m _ _ is.1 (all_give pieces behind step.0 m step.2 (put_once name value g step.0 is once))
all_give (Joined name value ∷ pieces) behind g m e once =
    let step = and_then_is (give_all pieces behind) (put name value g) m e in
    let is = put_is name value g step.0 step.1 in
    put_further name value g step.0 m _ _ is.1 (all_give pieces behind step.0 m step.2 (put_once name value g step.0 is once))
all_give (Alone value ∷ pieces) behind g m e once =
    let step = and_then_is (give_all pieces behind) (put_positional value g) m e in
    let first = positional_cases value g.positional g.values step.0 step.1 in
    let further = all_give pieces behind step.0 m step.2 (subst (λ (k : Given). StandOnce k.values) first.1 once) in
    let rest : List (List ℕ) = flat_map positionals_in pieces ++ behind in
    record {
      values_are = further.values_are ∙ ap (λ (k : Given). k.values ++ flat_map values_in pieces) (sym first.1);
      once = further.once;
      positional_is = further.positional_is ∙ ap (λ (k : Given). at_most_one k.positional ++ rest) (sym first.1)
          ∙ sym (ap (λ (o : Option (List ℕ)). at_most_one o ++ value ∷ rest) first.0);
    }

-- ---- and all can be given, if each stands once

-- where one more positional follows there was none
free : (before after : Option (List ℕ)) (value : List ℕ) (rest : List (List ℕ)) → at_most_one after ≡ at_most_one before ++ value ∷ rest
    → (before ≡ None) × (at_most_one after ≡ at_most_one (Some value) ++ rest)
free None after value rest e = (refl, e)
free (Some other) None value rest e = absurd (grind (arith, e))
free (Some other) (Some after) value rest e = absurd (grind (arith, e))

same_one : (one other : Option (List ℕ)) → at_most_one one ≡ at_most_one other → one ≡ other
same_one None None e = refl
same_one None (Some y) e = absurd (grind (arith, e))
same_one (Some x) None e = absurd (grind (arith, e))
same_one (Some x) (Some y) e = grind (arith, e)

place_can : (value : List ℕ) (g : Given) → g.positional ≡ None → put_positional value g ≡ Some (given g.values (Some value))
place_can value g e = rw e refl

positionals_can : (behind : List (List ℕ)) (g : Given) (after : Option (List ℕ)) → at_most_one after ≡ at_most_one g.positional ++ behind
    → give_positionals behind g ≡ Some (given g.values after)
positionals_can [] g after e =
    let same : after ≡ g.positional = same_one after g.positional (e ∙ append_none (at_most_one g.positional)) in
    ap (λ (o : Option (List ℕ)). Some (given g.values o)) (sym same)
positionals_can (value ∷ values) g after e =
    let is = free g.positional after value values e in
    ap (option_and_then (give_positionals values)) (place_can value g is.0) ∙ positionals_can values (given g.values (Some value)) after is.1

pub all_can : (pieces : List Piece) (behind : List (List ℕ)) (g : Given) (after : Option (List ℕ)) → StandOnce (g.values ++ flat_map values_in pieces)
    → at_most_one after ≡ at_most_one g.positional ++ (flat_map positionals_in pieces ++ behind)
    → give_all pieces behind g ≡ Some (given (g.values ++ flat_map values_in pieces) after)
all_can [] behind g after once e =
    positionals_can behind g after e ∙ ap (λ (vs : Values). Some (given vs after)) (sym (append_none g.values))
all_can (Apart name value ∷ pieces) behind g after once e =
    let rest : Values = flat_map values_in pieces in
    let joins : (g.values ++ (name, value) ∷ []) ++ rest ≡ g.values ++ (name, value) ∷ rest = append_assoc g.values ((name, value) ∷ []) rest in
    ap (option_and_then (give_all pieces behind)) (put_can name value g (none_before name value g.values rest once))
    ∙ all_can pieces behind (with_value name value g) after (subst StandOnce (sym joins) once) e
    ∙ ap (λ (vs : Values). Some (given vs after)) joins
all_can (Joined name value ∷ pieces) behind g after once e =
    let rest : Values = flat_map values_in pieces in
    let joins : (g.values ++ (name, value) ∷ []) ++ rest ≡ g.values ++ (name, value) ∷ rest = append_assoc g.values ((name, value) ∷ []) rest in
    ap (option_and_then (give_all pieces behind)) (put_can name value g (none_before name value g.values rest once))
    ∙ all_can pieces behind (with_value name value g) after (subst StandOnce (sym joins) once) e
    ∙ ap (λ (vs : Values). Some (given vs after)) joins
all_can (Alone value ∷ pieces) behind g after once e =
    let is = free g.positional after value (flat_map positionals_in pieces ++ behind) e in
    ap (option_and_then (give_all pieces behind)) (place_can value g is.0)
    ∙ all_can pieces behind (given g.values (Some value)) after once is.1
