-- What stands at the front of a text, one piece at a time, and the text behind it.
use Rattle.std.specs.Prelude.{◌||◌, ℕ, suc, zero, Bool, false, cond, not, ◌&&◌, ◌==◌, Option, Some, None, List, [], ◌∷◌, ◌++◌, length}
use Rattle.std.specs.Option.{option_map}
use Rattle.std.specs.Char.{is_ascii_hexdigit, is_ascii_digit}
use Rattle.std.specs.Str.Parse.{digits_value}
use Rattle.selectors.specs.Characters.{is_break, is_white, is_name_character, begins}
use Rattle.selectors.specs.Escapes.{scalar_of}
use Rattle.selectors.specs.Names.{begins_name}

-- the characters at the front that pass a test, at most so many
abbrev pub front : (ℕ → Bool) → ℕ → List ℕ → List ℕ
front test zero text = []
front test (suc most) [] = []
front test (suc most) (c ∷ text) = cond (test c) (c ∷ front test most text) []

-- what is behind them
abbrev pub behind : (ℕ → Bool) → ℕ → List ℕ → List ℕ
behind test zero text = text
behind test (suc most) [] = []
behind test (suc most) (c ∷ text) = cond (test c) (behind test most text) (c ∷ text)

-- the text without white space at the front
abbrev pub after_white : List ℕ → List ℕ
after_white [] = []
after_white (c ∷ text) = cond (is_white c) (after_white text) (c ∷ text)

-- the text without one LF at the front
abbrev pub after_feed : List ℕ → List ℕ
after_feed [] = []
after_feed (c ∷ text) = cond (c == 10) text (c ∷ text)

-- the text behind this line break or other white space: a CR takes an LF behind it along
abbrev pub after_one : ℕ → List ℕ → List ℕ
after_one c text = cond (c == 13) (after_feed text) text

-- the text without one white space at the front
abbrev pub after_blank : List ℕ → List ℕ
after_blank [] = []
after_blank (c ∷ text) = cond (is_white c) (after_one c text) (c ∷ text)

-- an escape behind its backslash: the character that it means
abbrev pub escape_at : List ℕ → Option (ℕ × List ℕ)
escape_at [] = None
escape_at (c ∷ text) = cond (is_ascii_hexdigit c)
    (Some (scalar_of (digits_value 16 (front is_ascii_hexdigit 6 (c ∷ text))), after_blank (behind is_ascii_hexdigit 6 (c ∷ text))))
    (cond (is_break c) None (Some (c, text)))

-- one character as a list
abbrev pub single : Option (ℕ × List ℕ) → Option (List ℕ × List ℕ)
single found = option_map (λ x. (x.0 ∷ [], x.1)) found

-- a piece of a name
abbrev pub name_piece_at : List ℕ → Option (List ℕ × List ℕ)
name_piece_at [] = None
name_piece_at (c ∷ text) = cond (is_name_character c) (Some (c ∷ [], text)) (cond (c == 92) (single (escape_at text)) None)

-- an escape in a string behind its backslash, or a line break that the backslash takes away
abbrev pub string_escape_at : List ℕ → Option (List ℕ × List ℕ)
string_escape_at [] = None
string_escape_at (c ∷ text) = cond (is_break c) (Some ([], after_one c text)) (single (escape_at (c ∷ text)))

-- a piece of a string in these quotes
abbrev pub string_piece_at : ℕ → List ℕ → Option (List ℕ × List ℕ)
string_piece_at quote [] = None
string_piece_at quote (c ∷ text) = cond (c == quote) None (cond (c == 92) (string_escape_at text) (cond (is_break c) None (Some (c ∷ [], text))))

-- whether an identifier stands there
abbrev pub starts_identifier : List ℕ → Bool
starts_identifier [] = false
starts_identifier (c ∷ text) = cond (c == 45) (begins_name text && not (begins is_ascii_digit text)) (begins_name (c ∷ text) && not (is_ascii_digit c))

-- what a piece means and what follows, or nothing more
abbrev pub joined : Option (List ℕ × List ℕ) → (List ℕ → List ℕ × List ℕ) → List ℕ → List ℕ × List ℕ
joined None next text = ([], text)
joined (Some piece) next text = (piece.0 ++ (next piece.1).0, (next piece.1).1)

-- piece after piece, at most so many: what they mean, and the text behind them
abbrev pub pieces_at : (List ℕ → Option (List ℕ × List ℕ)) → ℕ → List ℕ → List ℕ × List ℕ
pieces_at at zero text = ([], text)
pieces_at at (suc most) text = joined (at text) (pieces_at at most) text

-- an identifier: what it means, and the text behind it
unfoldable pub identifier_at : List ℕ → Option (List ℕ × List ℕ)
identifier_at text = cond (starts_identifier text) (Some (pieces_at name_piece_at (length text) text)) None

abbrev pub is_quote : ℕ → Bool
is_quote c = (c == 34) || (c == 39)

-- what stands before this quote
abbrev pub closed_by : ℕ → List ℕ → List ℕ → Option (List ℕ × List ℕ)
closed_by quote value [] = None
closed_by quote value (c ∷ rest) = cond (c == quote) (Some (value, rest)) None

-- a string: what it means, and the text behind it
unfoldable pub string_at : List ℕ → Option (List ℕ × List ℕ)
string_at [] = None
string_at (quote ∷ body) = cond (is_quote quote) (closed_by quote (pieces_at (string_piece_at quote) (length body) body).0 (pieces_at (string_piece_at quote) (length body) body).1) None
