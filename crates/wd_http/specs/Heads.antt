-- The head of a request.
use Rattle.std.specs.Prelude.{◌≡◌, ◌⊎◌, ◌≤◌, ℕ, Bool, List, [], map, length, Err}
use Rattle.std.specs.Str.{chars}
use Rattle.httparse.specs.Grammar.{RequestHead, ReadsRequest}
use Rattle.httparse.specs.Spans.{name_and_value}
use Rattle.wd_http.specs.Headers.{Header, body_length, wants_close}
use Rattle.wd_http.specs.declared.request.Request.{Request}
use Rattle.wd_http.specs.declared.request.BadHead.{BadHead}
use Rattle.wd_http.specs.declared.request.BadHead.TheVariants.{Head}

-- the most headers of one head
abbrev pub header_limit : ℕ
header_limit = 64

-- the block is one whole request head, whose target is UTF-8
abbrev pub IsHead : List ℕ → RequestHead → Type 0
IsHead block h = ReadsRequest block h [] × (length h.fields ≤ header_limit)

-- the headers, each by its name and its value without the spaces and tabs around it
abbrev pub headers_of : RequestHead → List Header
headers_of h = map name_and_value h.fields

-- the block is no head of a request, or its headers are wrong
abbrev pub HeadFault : List ℕ → BadHead → Type 0
HeadFault block kind =
    (((h : RequestHead) → IsHead block h → ⊥) × (kind ≡ Head))
    ⊎ ((h : RequestHead) × IsHead block h × (body_length (headers_of h) ≡ Err kind))

-- whether the client wants the connection closed after the response
abbrev pub closes_head : RequestHead → Bool
closes_head h = wants_close h.minor (headers_of h)

-- the request of a head, with this body
abbrev pub request_with : RequestHead → List ℕ → Request
request_with h body = record { method = chars h.method; target = chars h.target; close = closes_head h; body = body }
