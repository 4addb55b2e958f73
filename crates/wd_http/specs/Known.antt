-- A head that was read, whose body is still to come.
use Rattle.std.specs.Prelude.{◌≡◌, ◌≤◌, ℕ, List, [], length, take, Option, Some, None, Ok}
use Rattle.httparse.specs.Grammar.{RequestHead}
use Rattle.wd_http.specs.Frames.{head_limit}
use Rattle.wd_http.specs.Blocks.{IsBlock}
use Rattle.wd_http.specs.Heads.{IsHead, headers_of, request_with}
use Rattle.wd_http.specs.Headers.{body_length, body_limit}
use Rattle.wd_http.specs.declared.front.Waiting.{Waiting}

-- the head block in front is this head
pub record IsKnown (unread : List ℕ) (w : Waiting) : Type 0 where
  pub head : RequestHead
  pub within : w.block ≤ length unread
  pub short : w.block ≤ head_limit
  pub is_block : IsBlock (take w.block unread)
  pub is_head : IsHead (take w.block unread) head
  pub announces : body_length (headers_of head) ≡ Ok w.body
  pub most : w.body ≤ body_limit
  pub request : w.request ≡ request_with head []

-- the same of a head that may have been read
abbrev pub HeadIsKnown : List ℕ → Option Waiting → Type 0
HeadIsKnown unread None = Unit {0}
HeadIsKnown unread (Some w) = IsKnown unread w
