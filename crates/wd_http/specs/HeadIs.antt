-- What the code finds in a head block.
use Rattle.std.specs.Prelude.{◌≡◌, ℕ, List, [], Ok}
use Rattle.httparse.specs.Grammar.{RequestHead}
use Rattle.wd_http.specs.Heads.{IsHead, headers_of, HeadFault, request_with}
use Rattle.wd_http.specs.Headers.{body_length}
use Rattle.wd_http.specs.declared.request.Request.{Request}
use Rattle.wd_http.specs.declared.head.Head.{Head}
use Rattle.wd_http.specs.declared.head.Head.TheVariants.{Good, Bad}

-- the block is a head that announces n bytes of body
abbrev pub IsHeadOf : List ℕ → Request → ℕ → Type 0
IsHeadOf block r n = (h : RequestHead) × IsHead block h × (body_length (headers_of h) ≡ Ok n) × (r ≡ request_with h [])

-- a head, or what is wrong with the block
abbrev pub HeadIs : List ℕ → Head → Type 0
HeadIs block (Good r n) = IsHeadOf block r n
HeadIs block (Bad kind) = HeadFault block kind
