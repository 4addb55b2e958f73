use Rattle.std.proofs.Common.{◌≡◌, true, take, length}
use Rattle.std.specs.List.{list_all}
use Rattle.page_engine.specs.Books.{is_cell}
use Rattle.page_file.proofs.book.are_cells.Given as goal

abbrev pub invariant-loop-cell : goal.invariant-loop-cell
invariant-loop-cell l = list_all (is_cell (length l.cells)) (take l.cell-index l.cells) ≡ true
