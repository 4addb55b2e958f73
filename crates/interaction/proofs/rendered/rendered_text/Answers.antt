use Rattle.std.proofs.Common.{sym, ap, ◌∙◌}
use Rattle.interaction.specs.RenderedText.{marks}
use Rattle.interaction.specs.Writing.{written}
use Rattle.interaction.specs.declared.lines.Lines.{Lines}
use Rattle.interaction.proofs.LineLemmas.{written_text}
use Rattle.interaction.proofs.WriteLemmas.{text_shown, text_hidden}
use Rattle.interaction.proofs.rendered.rendered_text.Goals as goal

pub returns-then-not-shown : goal.returns-then-not-shown
returns-then-not-shown c = record { text = c.new.ensures ∙ sym (text_hidden c.args.document.now.rows c.args.node (sym c.shown.ensures ∙ c.if-not-shown.true)) }

pub returns : goal.returns
returns c =
    let rows = c.args.document.now.rows in
    record {
      text = written_text c.add.new.lines (marks 200 rows c.args.node) (c.in_ok-add.ensures ∙ ap (λ (l : Lines). written l (marks 200 rows c.args.node)) c.new-lines.ensures)
          ∙ sym (text_shown rows c.args.node (sym c.shown.ensures ∙ c.if-not-shown.false));
    }
