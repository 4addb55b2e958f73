use Rattle.std.proofs.Common.{sym, subst}
use Rattle.page_file.specs.Members.{Members}
use Rattle.page_file.proofs.Distinct.{attributes_kept}
use Rattle.page_file.proofs.attributes.attributes_of.Goals as goal
use Rattle.wd_json.specs.Keys.{KeysRise}

pub returns-in-Object-clause-good : goal.returns-in-Object-clause-good
returns-in-Object-clause-good c =
    let P : Members → Type 0 = λ ms. KeysRise ms in
    attributes_kept c.as_slice.result.now c.each.result (subst P (sym c.as_slice.ensures.entries) c.as_slice.ensures.rise) c.each.ensures.same
