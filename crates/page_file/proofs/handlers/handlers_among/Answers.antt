use Rattle.std.proofs.Common.{sym, subst}
use Rattle.page_file.specs.Members.{Members}
use Rattle.page_file.proofs.Distinct.{handlers_kept}
use Rattle.page_file.proofs.handlers.handlers_among.Goals as goal
use Rattle.wd_json.specs.Keys.{KeysRise}

pub returns-clause-good : goal.returns-clause-good
returns-clause-good c =
    let P : Members → Type 0 = λ ms. KeysRise ms in
    handlers_kept c.as_slice.result.now c.each.result (subst P (sym c.as_slice.ensures.entries) c.as_slice.ensures.rise) c.each.ensures.same c.each.ensures.fit
