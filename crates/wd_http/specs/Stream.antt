-- What a framer holds, and what it answers.
use Rattle.std.specs.Prelude.{◌≡◌, ◌<◌, length, ℕ, List, ◌++◌, Option, Some, None, Bool, false}
use Rattle.wd_http.specs.declared.request.Request.{Request}
use Rattle.wd_http.specs.declared.request.BadHead.{BadHead}
use Rattle.wd_http.specs.declared.framer.Next.{Next}
use Rattle.wd_http.specs.declared.framer.Next.TheVariants.{Request as NextRequest, More, Bad}
use Rattle.wd_http.specs.Frames.{Spelling, BadFront, IsOpen, most_unread}

-- the bytes that were fed and not taken, the bad head that stands in front of them, if one was
-- answered, and whether a call wanted memory
pub record Stream : Type 0 where
  pub unread : List ℕ
  pub bad : Option BadHead
  pub spent : Bool

-- a bad head that was answered stands in front
abbrev pub BadIs : List ℕ → Option BadHead → Type 0
BadIs unread None = Unit {0}
BadIs unread (Some kind) = BadFront unread kind

-- a request was taken
pub record Takes (old new : Stream) (r : Request) : Type 0 where
  pub spelling : List ℕ
  pub spells : Spelling spelling r
  pub split : old.unread ≡ spelling ++ new.unread
  pub good : new.bad ≡ None
  pub whole : new.spent ≡ false

-- what is answered, and what is held before and after
abbrev pub Framed : Stream → Stream → Next → Type 0
Framed old new (NextRequest r) = Takes old new r
Framed old new More = IsOpen old.unread × (length old.unread < most_unread) × (new ≡ old)
Framed old new (Bad kind) = BadFront old.unread kind × (new ≡ record old { bad = Some kind })
