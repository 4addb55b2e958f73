-- The requests that bytes spell.
use Rattle.std.specs.Prelude.{◌≡◌, ℕ, ◌<◌, ◌+◌, ◌⊎◌, ◌||◌, ◌==◌, Bool, true, false, List, [], ◌∷◌, ◌++◌, length, All, ◌≤◌, take, Ok}
use Rattle.wd_http.specs.declared.request.Request.{Request}
use Rattle.wd_http.specs.declared.request.BadHead.{BadHead}
use Rattle.wd_http.specs.declared.request.BadHead.TheVariants.{HeadLong}
use Rattle.httparse.specs.Grammar.{RequestHead}
use Rattle.wd_http.specs.Blocks.{IsBlock}
use Rattle.wd_http.specs.Heads.{IsHead, headers_of, HeadFault, request_with}
use Rattle.wd_http.specs.Headers.{body_length, body_limit}

-- the most bytes of a head block
abbrev pub head_limit : ℕ
head_limit = 16384

-- s is one whole request: a head block, and the body that its headers announce
pub record Spelling (s : List ℕ) (r : Request) : Type 0 where
  pub block : List ℕ
  pub body : List ℕ
  pub head : RequestHead
  pub whole : s ≡ block ++ body
  pub is_block : IsBlock block
  pub short : length block ≤ head_limit
  pub is_head : IsHead block head
  pub announces : body_length (headers_of head) ≡ Ok (length body)
  pub request : r ≡ request_with head body

-- no whole head block stands in as many bytes as one may have
pub record IsTooLong (b : List ℕ) : Type 0 where
  pub many : head_limit ≤ length b
  pub none : (s rest : List ℕ) → take head_limit b ≡ s ++ rest → IsBlock s → ⊥

-- a whole head block stands in front, and is no head of a request for this reason
pub record IsBadBlock (b : List ℕ) (kind : BadHead) : Type 0 where
  pub block : List ℕ
  pub rest : List ℕ
  pub whole : b ≡ block ++ rest
  pub is_block : IsBlock block
  pub short : length block ≤ head_limit
  pub fault : HeadFault block kind

-- what bytes begin with is no head, for this reason
unfoldable pub BadFront : List ℕ → BadHead → Type 0
BadFront b kind = (IsTooLong b × (kind ≡ HeadLong)) ⊎ IsBadBlock b kind

-- no request and no bad head stands in front
pub record IsOpen (b : List ℕ) : Type 0 where
  pub no_request : (s rest : List ℕ) (r : Request) → b ≡ s ++ rest → Spelling s r → ⊥
  pub no_bad : (kind : BadHead) → BadFront b kind → ⊥

-- the text is the spellings of the requests, one after another
abbrev pub Spells : List ℕ → List Request → Type 0
Spells text [] = text ≡ []
Spells text (r ∷ rs) = (s : List ℕ) × (rest : List ℕ) × (text ≡ s ++ rest) × Spelling s r × Spells rest rs

-- why no further request is heard: no whole one came, a bad head stands there, or the server closes
pub data End : Type 0 where
  Rest : End
  Bad : BadHead → End
  Closed : End

-- the most requests of one connection
abbrev pub request_limit : ℕ
request_limit = 1000000

-- whether the server closes after the request of this number, where the first has the number 1
abbrev pub closes : ℕ → Request → Bool
closes number r = r.close || (number == request_limit)

-- none of them closes, and there may be a further one
pub record StayOpen (rs : List Request) : Type 0 where
  pub none_closes : All (λ r. r.close ≡ false) rs
  pub further : length rs < request_limit

-- the last of them closes the connection, and no earlier one does
pub record LastCloses (rs : List Request) : Type 0 where
  pub front : List Request
  pub last : Request
  pub whole : rs ≡ front ++ last ∷ []
  pub earlier : StayOpen front
  pub closes : (last.close ≡ true) ⊎ (length rs ≡ request_limit)

-- the requests end so, before this rest
abbrev pub EndsAt : List ℕ → List Request → End → Type 0
EndsAt rest rs Rest = IsOpen rest × StayOpen rs
EndsAt rest rs (Bad kind) = BadFront rest kind × StayOpen rs
EndsAt rest rs Closed = LastCloses rs

-- the requests that a server hears in these bytes, and why it hears no further one
pub record Heard (b : List ℕ) (rs : List Request) (end : End) : Type 0 where
  pub text : List ℕ
  pub rest : List ℕ
  pub whole : b ≡ text ++ rest
  pub spells : Spells text rs
  pub ends : EndsAt rest rs end

-- in fewer bytes than these stands no whole request and no bad head
abbrev pub most_unread : ℕ
most_unread = head_limit + body_limit
