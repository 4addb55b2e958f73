use Rattle.std.proofs.Common.{◌≡◌, true, drop}
use Rattle.std.specs.List.{list_all}
use Rattle.page_file.specs.Members.{each_of}
use Rattle.page_file.proofs.EachOf.{onto_all}
use Rattle.page_file.proofs.each.each.Given as goal

abbrev pub invariant-loop-value : goal.invariant-loop-value
invariant-loop-value g l = record {
  read : each_of g.S.Spelling.spelled l.values ≡ onto_all l.items.items (each_of g.S.Spelling.spelled (drop l.value-index l.values));
  fit : list_all g.S.Spelling.fits l.items.items ≡ true;
}
