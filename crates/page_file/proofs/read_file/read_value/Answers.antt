use Rattle.std.proofs.Common.{◌+◌, ◌≤◌, ℕ, List, Option, IsTrue, length, rules, arith}
use Rattle.page_file.proofs.FileFaults.{no_text, no_value_at, bad_fault, of_err}
use Rattle.page_file.specs.Rows.{Fault}
use Rattle.page_file.specs.SiteFiles.{files_limit, IsFileFault, IsTextOf}
use Rattle.page_file.specs.declared.why.Why.TheVariants as reason
use Rattle.wd_json.specs.Whole.{IsCause}
use Rattle.wd_json.specs.declared.fault.JsonFault.TheVariants as json
use Rattle.wd_json.specs.declared.value.Json.{Json}
use Rattle.page_file.proofs.read_file.read_value.Goals as goal

pub returns-in_err-bytes-clause-fault : goal.returns-in_err-bytes-clause-fault
returns-in_err-bytes-clause-fault g c =
    of_err (λ fault. IsTrue g.F.Files.tells → (wrong : Json → Option Fault) → IsFileFault (g.F.Files.files c.args.files.now) c.args.name.now c.args.total.now wrong fault)
    c.from_residual.result c.in_err-bytes.field-0.0 (search rules) c.in_err-bytes.ensures.fault

pub returns-in-Err-NotJson-clause-fault : goal.returns-in-Err-NotJson-clause-fault
returns-in-Err-NotJson-clause-fault g c = λ t wrong.
    let bytes : List ℕ = c.in_ok-bytes.bytes in
    let cause : IsCause bytes json.NotJson = search rules in
    let none : (v : Json) → IsTextOf bytes v → ⊥ = no_text bytes json.NotJson cause (λ e. cc) in
    let few : c.args.total.now + length bytes ≤ files_limit = omega (arith, c.in_ok-bytes.ensures.size, c.in_ok-bytes.ensures.within) in
    bad_fault (g.F.Files.files c.args.files.now) c.args.name.now c.args.total.now wrong 0 reason.Json c.bad.result c.bad.ensures
    (no_value_at (g.F.Files.files c.args.files.now) c.args.name.now c.args.total.now wrong bytes (c.in_ok-bytes.ensures.told t) c.in_ok-bytes.ensures.fits few none)
