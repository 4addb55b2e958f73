use Rattle.std.proofs.Common.{◌≡◌, true, take}
use Rattle.page_engine.specs.Books.{are_pairs}
use Rattle.page_file.proofs.SeenTexts.{first_key}
use Rattle.page_file.specs.Seen.{HasKeys}
use Rattle.page_file.proofs.book.are_pairs.Given as goal

abbrev pub invariant-loop-pair : goal.invariant-loop-pair
invariant-loop-pair l = record {
  differ : are_pairs l.count (take l.pair-index l.pair-items) ≡ true;
  seen : HasKeys first_key l.seen (take l.pair-index l.pair-items);
}
