-- Numbers among the words of the command line.
use Rattle.std.specs.Prelude.{◌&&◌, nat_lt, nat_le, ℕ, List, Bool, Option, Some, None, length, if◌then◌else◌}
use Rattle.std.specs.List.{list_all}
use Rattle.std.specs.Char.{is_ascii_digit}
use Rattle.std.specs.Str.Parse.{digits_value}

-- one to ten ASCII digits
abbrev pub is_number : List ℕ → Bool
is_number word = nat_lt 0 (length word) && nat_le (length word) 10 && list_all is_ascii_digit word

-- the number from 1 to a limit that they spell
abbrev pub number_of : ℕ → List ℕ → Option ℕ
number_of limit word =
    if is_number word && nat_lt 0 (digits_value 10 word) && nat_le (digits_value 10 word) limit then Some (digits_value 10 word) else None
