-- Which cell of a script's result a JSON value spells: one row a word.
use Rattle.std.specs.Prelude.{ℕ, List, [], ◌∷◌, Option, Some, None, codes}
use Rattle.std.specs.List.{find}
use Rattle.std.specs.Option.{option_map, option_and_then}
use Rattle.std.specs.Str.{encode_utf8_all, bytes_eq}
use Rattle.page_engine.specs.declared.book.BookCell.{BookCell}
use Rattle.page_engine.specs.declared.book.BookCell.TheVariants as cell
use Rattle.page_file.specs.Members.{each_of}
use Rattle.page_file.specs.Values.{text_of, bool_of, list_of, number_of, whole_of}
use Rattle.page_file.specs.declared.cell_word.CellWord.{CellWord}
use Rattle.page_file.specs.declared.cell_word.CellWord.TheVariants as word
use Rattle.wd_json.specs.declared.value.Json.{Json}

abbrev pub cell_text : CellWord → List ℕ
cell_text word.Null = codes "null"
cell_text word.Bool = codes "bool"
cell_text word.Int = codes "int"
cell_text word.Fraction = codes "fraction"
cell_text word.Text = codes "text"
cell_text word.Node = codes "node"
cell_text word.Shadow = codes "shadow"
cell_text word.List = codes "list"
cell_text word.Object = codes "object"
cell_text word.Log = codes "log"
cell_text word.Arg = codes "arg"

abbrev pub all_cell_words : List CellWord
all_cell_words = word.Null ∷ word.Bool ∷ word.Int ∷ word.Fraction ∷ word.Text ∷ word.Node ∷ word.Shadow ∷ word.List ∷ word.Object ∷ word.Log ∷ word.Arg ∷ []

unfoldable pub cell_with : List ℕ → Option CellWord
cell_with bytes = find (λ w. bytes_eq (cell_text w) bytes) all_cell_words

abbrev pub cell_word_of : Json → Option CellWord
cell_word_of v = option_and_then (λ t. cell_with (encode_utf8_all t)) (text_of v)

-- a word, and the values after it
abbrev pub CellRow : Type 0
CellRow = CellWord × List Json

abbrev cell_row_in : List Json → Option CellRow
cell_row_in [] = None
cell_row_in (head ∷ rest) = option_map (λ w. (w, rest)) (cell_word_of head)

abbrev pub cell_row_of : Json → Option CellRow
cell_row_of v = option_and_then cell_row_in (list_of v)

-- the places of cells
abbrev pub places_of : Json → Option (List ℕ)
places_of v = option_and_then (each_of number_of) (list_of v)

-- a key and a place
abbrev pub Pair : Type 0
Pair = List ℕ × ℕ

abbrev pub pair_in : List Json → Option Pair
pair_in (key ∷ place ∷ []) = option_and_then (λ key. option_map (λ place. (key, place)) (number_of place)) (text_of key)
pair_in values = None

abbrev pub pair_of : Json → Option Pair
pair_of v = option_and_then pair_in (list_of v)

abbrev pub pairs_of : Json → Option (List Pair)
pairs_of v = option_and_then (each_of pair_of) (list_of v)

-- a word alone
abbrev pub bare_cell : CellWord → Option BookCell
bare_cell word.Null = Some cell.Null
bare_cell word.Log = Some cell.Log
bare_cell w = None

-- a word and one value
abbrev pub cell_with_value : CellWord → Json → Option BookCell
cell_with_value word.Null v = None
cell_with_value word.Bool v = option_map cell.Bool (bool_of v)
cell_with_value word.Int v = option_map cell.Int (whole_of v)
cell_with_value word.Fraction v = option_map cell.Fraction (text_of v)
cell_with_value word.Text v = option_map cell.Text (text_of v)
cell_with_value word.Node v = option_map cell.Node (number_of v)
cell_with_value word.Shadow v = option_map cell.Shadow (number_of v)
cell_with_value word.List v = option_map cell.List (places_of v)
cell_with_value word.Object v = option_map cell.Object (pairs_of v)
cell_with_value word.Log v = None
cell_with_value word.Arg v = option_map cell.Arg (number_of v)

abbrev pub cell_row : CellWord → List Json → Option BookCell
cell_row w [] = bare_cell w
cell_row w (v ∷ []) = cell_with_value w v
cell_row w values = None

abbrev pub cell_of : Json → Option BookCell
cell_of v = option_and_then (λ row. cell_row row.0 row.1) (cell_row_of v)

abbrev pub cells_of : Json → Option (List BookCell)
cells_of v = option_and_then (each_of cell_of) (list_of v)

-- for a private clause: the cells of one value that take no memory
abbrev pub plain_cell : CellWord → Json → Option BookCell
plain_cell word.Bool v = option_map cell.Bool (bool_of v)
plain_cell word.Int v = option_map cell.Int (whole_of v)
plain_cell word.Node v = option_map cell.Node (number_of v)
plain_cell word.Shadow v = option_map cell.Shadow (number_of v)
plain_cell word.Arg v = option_map cell.Arg (number_of v)
plain_cell w v = None
