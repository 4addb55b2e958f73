use Rattle.std.proofs.Common.{List, ℕ, ◌∙◌, ◌++◌, ap, arith, codes}
use Rattle.std.proofs.lemmas.Result.{IfOk-weaker}
use Rattle.page_engine.specs.Lines.{head_of}
use Rattle.page_engine.proofs.LineTexts.{spaced_text, named_head}
use Rattle.page_engine.proofs.lines.key_line.Goals as goal

pub returns : goal.returns
returns c =
    IfOk-weaker c.of.result _ _ (λ t e. e ∙ spaced_text c.args.kind c.args.target c.as_str-2.result.now c.as_str.result.now (omega (arith, c.ranges.target.fits))
    (c.as_str-2.ensures.value ∙ c.in_ok-text.ensures.ok ∙ named_head c.args.kind c.name.result.now _ c.name.ensures)
    ∙ ap (λ (u : List ℕ). head_of c.args.kind c.args.target ++ codes " " ++ u) c.as_str.ensures.characters) c.of.ensures.characters
