use Rattle.std.proofs.Common.{◌≡◌, ◌+◌, ◌≤◌, Some, IsTrue, rules, arith}
use Rattle.page_file.proofs.FileFaults.{bad_value_at, bad_fault, of_err}
use Rattle.page_file.proofs.Lawful.{listing_lawful}
use Rattle.page_file.specs.SiteFiles.{files_limit, size_at, listing_fault, IsFileFault}
use Rattle.wd_json.specs.declared.value.Json.{Json}
use Rattle.page_file.proofs.read_file.read_listing_file.Goals as goal

pub returns-in_err-value-clause-fault : goal.returns-in_err-value-clause-fault
returns-in_err-value-clause-fault g c =
    of_err (λ fault. IsTrue g.F.Files.tells → IsFileFault (g.F.Files.files c.args.files.now) c.args.name.now c.args.total.now listing_fault fault)
    c.from_residual.result c.in_err-value.field-0.0 (search rules) (λ t. c.in_err-value.ensures.fault t listing_fault)

pub returns-in-Err-Bad-clause-fault : goal.returns-in-Err-Bad-clause-fault
returns-in-Err-Bad-clause-fault g c = λ t.
    let v : Json = c.in_ok-value.value in
    let row = c.in-Err-Bad.row in
    let why = c.in-Err-Bad.why in
    let cause : listing_fault v ≡ Some (row, why) = search rules in
    let few : c.args.total.now + size_at (g.F.Files.files c.args.files.now) c.args.name.now ≤ files_limit = omega (arith, c.in_ok-value.ensures.size t, c.in_ok-value.ensures.within) in
    bad_fault (g.F.Files.files c.args.files.now) c.args.name.now c.args.total.now listing_fault row why c.bad.result c.bad.ensures
    (bad_value_at (g.F.Files.files c.args.files.now) c.args.name.now c.args.total.now listing_fault v row why (c.in_ok-value.ensures.file t) few cause)

pub returns-in-Ok-clause-lawful : goal.returns-in-Ok-clause-lawful
returns-in-Ok-clause-lawful g c = listing_lawful c.in_ok-value.value c.in-Ok.listing.0 c.in-Ok.ensures.listing
