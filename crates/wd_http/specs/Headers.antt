-- What the headers of a request say: the length of its body, and whether the connection closes.
use Rattle.std.specs.Prelude.{◌==◌, ◌||◌, ◌&&◌, nat_lt, ℕ, Bool, not, List, [], ◌∷◌, map, filter, length, Result, Ok, Err, codes, if◌then◌else◌}
use Rattle.std.specs.List.{list_any, list_all, slice_split}
use Rattle.std.specs.Char.{to_ascii_lowercase, is_ascii_digit}
use Rattle.std.specs.Str.{bytes_eq}
use Rattle.std.specs.Str.Parse.{digits_value}
use Rattle.httparse.specs.Ascii.{comma}
use Rattle.httparse.specs.Grammar.{trim_ows}
use Rattle.wd_http.specs.declared.request.BadHead.{BadHead}
use Rattle.wd_http.specs.declared.request.BadHead.TheVariants.{Coding, Length, BodyLong}

-- a name and a value, without the spaces and tabs around it
abbrev pub Header : Type 0
Header = List ℕ × List ℕ

-- whether two texts are the same without regard to ASCII case
abbrev pub is_same_word : List ℕ → List ℕ → Bool
is_same_word text word = bytes_eq (map to_ascii_lowercase text) (map to_ascii_lowercase word)

-- whether a header has this name
abbrev pub is_named : List ℕ → Header → Bool
is_named name header = is_same_word header.0 name

-- the values of the headers of this name, in order
abbrev pub values_of : List ℕ → List Header → List (List ℕ)
values_of name headers = map (λ h. h.1) (filter (is_named name) headers)

-- the most bytes of a body
abbrev pub body_limit : ℕ
body_limit = 4194304

-- one or more digits
abbrev pub is_number : List ℕ → Bool
is_number text = nat_lt 0 (length text) && list_all is_ascii_digit text

-- the length that the value of a Content-Length header gives
unfoldable pub length_of : List ℕ → Result ℕ BadHead
length_of value =
    if not (is_number value) then Err Length else
    if nat_lt body_limit (digits_value 10 value) then Err BodyLong else
    Ok (digits_value 10 value)

-- the same, by the values of all Transfer-Encoding headers and of all Content-Length headers
abbrev pub length_by : List (List ℕ) → List (List ℕ) → Result ℕ BadHead
length_by (_ ∷ _) _ = Err Coding
length_by [] [] = Ok 0
length_by [] (value ∷ []) = length_of value
length_by [] (_ ∷ _ ∷ _) = Err Length

-- the length of the body that headers announce, or what is wrong with them
unfoldable pub body_length : List Header → Result ℕ BadHead
body_length headers = length_by (values_of (codes "Transfer-Encoding") headers) (values_of (codes "Content-Length") headers)

-- whether the word is one of those between the commas, without the spaces and tabs around each
abbrev pub has_word : List ℕ → List ℕ → Bool
has_word word value = list_any (λ part. is_same_word (trim_ows part) word) (slice_split (λ b. b == comma) value)

-- whether a head of HTTP/1.minor with these headers wants the connection closed
unfoldable pub wants_close : ℕ → List Header → Bool
wants_close minor headers = (minor == 0) || list_any (has_word (codes "close")) (values_of (codes "Connection") headers)
