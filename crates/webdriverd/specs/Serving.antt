-- What is called of a line to serve its connections, whatever line it is.
use Rattle.std.specs.Prelude.{◌≡◌, ◌+◌, ◌<◌, ◌≤◌, ℕ, true, List, [], ◌∷◌, ◌++◌, drop, length, Option, Some, None}
use Rattle.std.specs.List.{All}
use Rattle.wd_http.specs.Frames.{closes}
use Rattle.wd_http.specs.Made.{LineCall, Opens, Asks, Takes, Hands, HangsUp, Made}
use Rattle.wd_http.specs.declared.request.BadHead.{BadHead}
use Rattle.remote_end.specs.Machine.{Exchange}
use Rattle.remote_end.specs.Replies.{bad_reply}
use Rattle.webdriverd.specs.Sent.{response_to}
use Rattle.webdriverd.specs.declared.asked.How.{How}
use Rattle.webdriverd.specs.declared.asked.How.TheVariants.{Pipe, Listen}

-- Bytes are handed to the line in one piece, and then what it didn't take of them, until all is taken or a call
-- fails.
pub data Handing : List ℕ → List LineCall → Type 0 where
  AllTaken : Handing [] []
  Onwards : (bytes : List ℕ) (n : ℕ) (calls : List LineCall) → Handing (drop n bytes) calls → Handing bytes (Hands bytes ∷ calls)
  BrokenOff : (bytes : List ℕ) → Handing bytes (Hands bytes ∷ [])

-- The responses of these exchanges were handed over, each once it was answered, with reads between them.
pub data Answering : List Exchange → List LineCall → Type 0 where
  Starts : Answering [] []
  Reads : (es : List Exchange) (calls : List LineCall) → Answering es calls → Answering es (calls ++ Takes ∷ [])
  Responds : (es : List Exchange) (e : Exchange) (calls handed : List LineCall) → Answering es calls
      → Handing (response_to e.reply (closes (length es + 1) e.request)) handed → Answering (es ++ e ∷ []) (calls ++ handed)

-- and at last, it may be, the response to a bad head
pub data Serving : List Exchange → List LineCall → Type 0 where
  Answered : (es : List Exchange) (calls : List LineCall) → Answering es calls → Serving es calls
  Refused : (es : List Exchange) (kind : BadHead) (calls handed : List LineCall) → Answering es calls
      → Handing (response_to (bad_reply kind) true) handed → Serving es (calls ++ handed)

-- under `pipe`: a connection is asked for once; where there is one it is served and hung up
pub data Piping : List (List Exchange) → List LineCall → Type 0 where
  NoneCame : Piping [] (Asks ∷ [])
  OneServed : (es : List Exchange) (calls : List LineCall) → Serving es calls → Piping (es ∷ []) (Asks ∷ calls ++ HangsUp ∷ [])

-- connections are asked for one after another; each is served and hung up
pub data Turns : List (List Exchange) → List LineCall → Type 0 where
  NoTurn : Turns [] []
  OneTurn : (es : List Exchange) (turns : List (List Exchange)) (serving more : List LineCall) → Serving es serving → Turns turns more → Turns (es ∷ turns) (Asks ∷ serving ++ HangsUp ∷ more)

-- so many of them, or fewer where a further one is asked for and none comes
pub data Attending : ℕ → List (List Exchange) → List LineCall → Type 0 where
  AllServed : (most : ℕ) (turns : List (List Exchange)) (calls : List LineCall) → length turns ≡ most → Turns turns calls → Attending most turns calls
  NoFurther : (most : ℕ) (turns : List (List Exchange)) (calls : List LineCall) → length turns < most → Turns turns calls → Attending most turns (calls ++ Asks ∷ [])

-- under `listen`: the port is opened first
pub data Listening : ℕ → ℕ → List (List Exchange) → List LineCall → Type 0 where
  Listens : (port most : ℕ) (turns : List (List Exchange)) (calls : List LineCall) → Attending most turns calls → Listening port most turns (Opens port ∷ calls)

-- ---- whatever came of it, and where memory was wanted too

-- a call on the connection that stands
abbrev pub IsWithin : LineCall → Type 0
IsWithin (Opens port) = ⊥
IsWithin Asks = ⊥
IsWithin Takes = Unit {0}
IsWithin (Hands bytes) = Unit {0}
IsWithin HangsUp = ⊥

-- no port is listened at, and a connection is asked for once at most
pub data AtMostOne : List LineCall → Type 0 where
  NotAsked : AtMostOne []
  NotGiven : AtMostOne (Asks ∷ [])
  Given : (calls : List LineCall) → All IsWithin calls → AtMostOne (Asks ∷ calls ++ HangsUp ∷ [])

-- so many connections are asked for, given and hung up
pub data Visits : ℕ → List LineCall → Type 0 where
  NoVisit : Visits 0 []
  OneVisit : (n : ℕ) (within more : List LineCall) → All IsWithin within → Visits n more → Visits (n + 1) (Asks ∷ within ++ HangsUp ∷ more)

-- connections are asked for so often at most, and each that comes is hung up
pub data AtMost : ℕ → List LineCall → Type 0 where
  EachCame : (most n : ℕ) (calls : List LineCall) → n ≤ most → Visits n calls → AtMost most calls
  LastCameNot : (most n : ℕ) (calls : List LineCall) → n < most → Visits n calls → AtMost most (calls ++ Asks ∷ [])

-- the port is opened before
pub data AtMostOpened : ℕ → ℕ → List LineCall → Type 0 where
  NotOpened : (port most : ℕ) → AtMostOpened port most []
  IsOpened : (port most : ℕ) (calls : List LineCall) → AtMost most calls → AtMostOpened port most (Opens port ∷ calls)

-- what may be called of the line, by the words
abbrev pub Allowed : Option How → List LineCall → Type 0
Allowed None calls = calls ≡ []
Allowed (Some Pipe) calls = AtMostOne calls
Allowed (Some (Listen port most)) calls = AtMostOpened port most calls

-- no connection is asked for
abbrev pub IsUnasked : LineCall → Type 0
IsUnasked (Opens port) = Unit {0}
IsUnasked Asks = ⊥
IsUnasked Takes = ⊥
IsUnasked (Hands bytes) = ⊥
IsUnasked HangsUp = ⊥

-- calls of such a form lead from one line to another
pub record Calls {O : Type 0} (makes : O → LineCall → O → Type 0) (old new : O) (Form : List LineCall → Type 0) : Type 0 where
  pub calls : List LineCall
  pub made : Made makes old calls new
  pub form : Form calls
