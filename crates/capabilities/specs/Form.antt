-- What a request for a session holds: the members that are always wanted, and the objects of which one is.
use Rattle.std.specs.Prelude.{ℕ, ◌==◌, List, [], ◌∷◌, length, map, Bool, not, ◌&&◌, Option, Some, None, Result, Ok, Err, codes, if◌then◌else◌}
use Rattle.std.specs.List.{list_all}
use Rattle.std.specs.Option.{option_map, option_map_or, option_and_then}
use Rattle.capabilities.specs.Values.{Members, object_of, list_of, is_object, members_of, value_of}
use Rattle.wd_json.specs.declared.value.Json.{Json}

pub record Asked : Type 0 where
  pub always : Members
  pub firsts : List Members

abbrev pub capabilities_in : Json → Option Members
capabilities_in parameters = option_and_then object_of (option_and_then (value_of (codes "capabilities")) (object_of parameters))

-- an object, or absent
abbrev pub always_in : Members → Option Members
always_in ms = option_map_or object_of (value_of (codes "alwaysMatch") ms) (Some [])

-- one object or more
abbrev pub are_objects : List Json → Bool
are_objects vs = not (length vs == 0) && list_all is_object vs

abbrev pub objects_in : Json → Option (List Json)
objects_in v = option_and_then (λ vs. if are_objects vs then Some vs else None) (list_of v)

-- such a list, or absent
abbrev pub firsts_in : Members → Option (List Members)
firsts_in ms = option_map_or (λ v. option_map (map members_of) (objects_in v)) (value_of (codes "firstMatch") ms) (Some ([] ∷ []))

abbrev pub asked_of : Option Members → Option (List Members) → Result Asked (List ℕ)
asked_of None firsts = Err (codes "alwaysMatch")
asked_of (Some always) None = Err (codes "firstMatch")
asked_of (Some always) (Some firsts) = Ok (record { always = always; firsts = firsts })

abbrev pub asked_by : Option Members → Result Asked (List ℕ)
asked_by None = Err (codes "capabilities")
asked_by (Some ms) = asked_of (always_in ms) (firsts_in ms)

-- what is asked for, or the first part that hasn't its form
abbrev pub asked_in : Json → Result Asked (List ℕ)
asked_in parameters = asked_by (capabilities_in parameters)
