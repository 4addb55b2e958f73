-- When a page's answers to scripts keep the rules.
use Rattle.std.specs.Prelude.{ℕ, ◌^◌, ◌-◌, Bool, true, ◌&&◌, not, nat_lt, nat_le, List, [], ◌∷◌, Option, Some, None, length}
use Rattle.std.specs.List.{list_all, list_any}
use Rattle.std.specs.Str.{bytes_eq}
use Rattle.page_engine.specs.Fitting.{anywhere, fit_at, is_within}
use Rattle.page_engine.specs.declared.book.BookCell.{BookCell}
use Rattle.page_engine.specs.declared.book.BookCell.TheVariants as cell
use Rattle.page_engine.specs.declared.book.BookEntry.{BookEntry}

-- the places are those of cells, and no key stands twice
abbrev pub are_pairs : ℕ → List (List ℕ × ℕ) → Bool
are_pairs count [] = true
are_pairs count (p ∷ ps) = nat_lt p.1 count && (not (list_any (λ other. bytes_eq other.0 p.0) ps) && are_pairs count ps)

-- a cell among so many
abbrev pub is_cell : ℕ → BookCell → Bool
is_cell count cell.Null = true
is_cell count (cell.Bool b) = true
is_cell count (cell.Int z) = is_within (2 ^ 53 - 1) z
is_cell count (cell.Fraction text) = true
is_cell count (cell.Text text) = true
is_cell count (cell.Node n) = true
is_cell count (cell.Shadow n) = true
is_cell count (cell.List places) = list_all (λ place. nat_lt place count) places
is_cell count (cell.Object pairs) = are_pairs count pairs
is_cell count cell.Log = true
is_cell count (cell.Arg n) = true

-- a script ends after 0 to 2^40 milliseconds, or never
abbrev pub is_end : Option ℕ → Bool
is_end None = true
is_end (Some ms) = nat_le ms (2 ^ 40)

abbrev pub is_entry : BookEntry → Bool
is_entry entry = nat_lt entry.root (length entry.cells) && (list_all (is_cell (length entry.cells)) entry.cells && (is_end entry.after && fit_at anywhere entry.effects))

-- each entry keeps the rules, and no script stands twice
abbrev pub is_book : List BookEntry → Bool
is_book [] = true
is_book (entry ∷ entries) = is_entry entry && (not (list_any (λ other. bytes_eq other.script entry.script) entries) && is_book entries)
