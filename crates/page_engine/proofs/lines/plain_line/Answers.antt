use Rattle.std.proofs.Common.{◌∙◌, arith}
use Rattle.std.proofs.lemmas.Result.{IfOk-weaker}
use Rattle.page_engine.proofs.LineTexts.{plain_text, named_head}
use Rattle.page_engine.proofs.lines.plain_line.Goals as goal

pub returns : goal.returns
returns c =
    IfOk-weaker c.of.result _ _ (λ t e. e ∙ plain_text c.args.kind c.args.target c.as_str.result.now (omega (arith, c.ranges.target.fits))
    (c.as_str.ensures.value ∙ c.in_ok-text.ensures.ok ∙ named_head c.args.kind c.name.result.now _ c.name.ensures)) c.of.ensures.characters
