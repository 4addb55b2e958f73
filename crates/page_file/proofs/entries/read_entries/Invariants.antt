use Rattle.std.proofs.Common.{◌≡◌, drop, length}
use Rattle.page_file.specs.Index.{IsIndexOf}
use Rattle.page_file.specs.Listings.{next_entry}
use Rattle.page_file.specs.Rows.{rows, rows_after}
use Rattle.page_file.proofs.entries.read_entries.Given as goal

abbrev pub invariant-loop-value : goal.invariant-loop-value
invariant-loop-value l = record {
  read : rows next_entry l.values ≡ rows_after next_entry l.entries.items (drop l.value-index l.values);
  count : length l.entries.items ≡ l.value-index;
  index : IsIndexOf l.entries.items l.places;
}
