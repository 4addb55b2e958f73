use Rattle.std.proofs.Common.{ap, ◌∙◌}
use Rattle.page_file.specs.Words.{kind_with}
use Rattle.page_file.proofs.WordTexts.{with_kind_text, kind_of_text}
use Rattle.page_file.proofs.row.kind_value.Goals as goal

pub returns-clause-same : goal.returns-clause-same
returns-clause-same c = kind_of_text c.in_ok-of.field-0 ∙ ap kind_with c.in_ok-of.ensures.bytes ∙ ap kind_with c.kind_text.ensures ∙ with_kind_text c.args.kind
