use Rattle.std.proofs.Common.{◌≡◌, drop, List, ℕ, Option}
use Rattle.wd_json.specs.declared.value.Json.{Json}
use Rattle.capabilities.specs.Values.{members_of}
use Rattle.capabilities.specs.Choice.{first_of, wrong_in}
use Rattle.capabilities.proofs.processing.wrong_of.Given as goal

abbrev pub invariant-loop-object : goal.invariant-loop-object
invariant-loop-object l =
    let wrong : Json → Option (List ℕ) = λ v. wrong_in (members_of v) in
    first_of wrong (drop l.object-index l.objects) ≡ first_of wrong l.objects
