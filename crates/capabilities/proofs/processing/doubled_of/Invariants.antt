use Rattle.std.proofs.Common.{◌≡◌, drop, List, ℕ, Option}
use Rattle.wd_json.specs.declared.value.Json.{Json}
use Rattle.capabilities.specs.Values.{members_of}
use Rattle.capabilities.specs.Choice.{first_of, doubled_in}
use Rattle.capabilities.proofs.processing.doubled_of.Given as goal

abbrev pub invariant-loop-first : goal.invariant-loop-first
invariant-loop-first l =
    let doubled : Json → Option (List ℕ) = λ v. doubled_in l.always (members_of v) in
    first_of doubled (drop l.first-index l.firsts) ≡ first_of doubled l.firsts
