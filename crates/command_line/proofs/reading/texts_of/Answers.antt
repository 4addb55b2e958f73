use Rattle.std.proofs.Common.{◌∙◌, ap, map}
use Rattle.command_line.proofs.FoundLemmas.{same_more, texts_more}
use Rattle.command_line.proofs.reading.texts_of.Goals as goal

pub loop-word-preserved : goal.loop-word-preserved
loop-word-preserved c =
    record {
      same = ap (map (λ t. t.now)) c.in_ok-push.ensures.items
          ∙ same_more c.args.words.now c.loop-word.word-index c.word-item.result c.loop-word.texts.items c.as_str.result c.loop-word-test.true c.word-item.is
          c.as_str.ensures.bytes c.loop-word.invariant.same;
      texts = texts_more c.args.words.now c.loop-word.word-index c.word-item.result c.loop-word-test.true c.word-item.is c.as_str.ensures.scalars c.loop-word.invariant.texts;
    }
