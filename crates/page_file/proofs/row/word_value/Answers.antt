use Rattle.std.proofs.Common.{ap, ◌∙◌}
use Rattle.page_file.specs.Words.{word_with}
use Rattle.page_file.proofs.WordTexts.{with_text, word_of_text}
use Rattle.page_file.proofs.row.word_value.Goals as goal

pub returns-clause-same : goal.returns-clause-same
returns-clause-same c = word_of_text c.in_ok-of.field-0 ∙ ap word_with c.in_ok-of.ensures.bytes ∙ ap word_with c.word_text.ensures ∙ with_text c.args.word
