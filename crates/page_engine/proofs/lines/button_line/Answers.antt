use Rattle.std.proofs.Common.{List, ℕ, ◌∙◌, ◌++◌, ap, arith, codes}
use Rattle.std.specs.Fmt.{decimal}
use Rattle.std.proofs.lemmas.Result.{IfOk-weaker}
use Rattle.page_engine.specs.Lines.{head_of}
use Rattle.page_engine.proofs.LineTexts.{spaced_text, number_text, named_head}
use Rattle.page_engine.proofs.lines.button_line.Goals as goal

pub returns : goal.returns
returns c =
    IfOk-weaker c.of.result _ _ (λ t e. e ∙ spaced_text c.args.kind c.args.target c.as_str.result.now (decimal c.args.button) (omega (arith, c.ranges.target.fits))
    (c.as_str.ensures.value ∙ c.in_ok-text.ensures.ok ∙ named_head c.args.kind c.name.result.now _ c.name.ensures)
    ∙ ap (λ (u : List ℕ). head_of c.args.kind c.args.target ++ codes " " ++ u) (number_text c.args.button (omega (arith, c.ranges.button.fits)))) c.of.ensures.characters
