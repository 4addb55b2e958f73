use Rattle.std.proofs.Common.{◌≡◌, drop, Bool}
use Rattle.std.specs.List.{find, list_all}
use Rattle.wd_json.specs.declared.value.Json.{Json}
use Rattle.capabilities.specs.Values.{members_of}
use Rattle.capabilities.specs.Table.{is_match}
use Rattle.capabilities.specs.Choice.{merge}
use Rattle.capabilities.proofs.processing.choose.Given as goal

abbrev pub invariant-loop-first : goal.invariant-loop-first
invariant-loop-first l =
    let test : Json → Bool = λ v. list_all (is_match l.offer.name) (merge l.always (members_of v)) in
    find test (drop l.first-index l.firsts) ≡ find test l.firsts
