-- The bytes of a response.
use Rattle.std.specs.Prelude.{ℕ, ◌==◌, if◌then◌else◌, Bool, unwrap_or, List, [], ◌∷◌, ◌++◌, length, codes}
use Rattle.std.specs.List.{list_any}
use Rattle.std.specs.Fmt.{decimal}
use Rattle.http.specs.StatusCode.{reason_phrase}

-- the statuses that are sent
abbrev pub statuses : List ℕ
statuses = 200 ∷ 400 ∷ 404 ∷ 405 ∷ 413 ∷ 431 ∷ 500 ∷ 501 ∷ []

abbrev pub is_status : ℕ → Bool
is_status status = list_any (λ s. s == status) statuses

-- the reason phrase of a status
abbrev pub phrase : ℕ → List ℕ
phrase status = unwrap_or (reason_phrase status) []

-- the end of a line
abbrev pub crlf : List ℕ
crlf = 13 ∷ 10 ∷ []

-- the bytes of a response
unfoldable pub response : ℕ → List ℕ → Bool → List ℕ
response status body close =
    codes "HTTP/1.1 " ++ decimal status ++ codes " " ++ phrase status
    ++ (crlf ++ codes "Content-Type: application/json; charset=utf-8"
    ++ crlf ++ codes "Cache-Control: no-cache"
    ++ crlf ++ codes "Content-Length: ") ++ decimal (length body)
    ++ crlf ++ (if close then codes "Connection: close" ++ crlf else [])
    ++ crlf ++ body
