-- What comes and goes on a line of connections.
use Rattle.std.specs.Prelude.{◌≡◌, ℕ, ◌<◌, Bool, true, false, List, [], ◌∷◌, ◌++◌, length, map, take, Option, Some, None, Result, Ok, Err, if◌then◌else◌}
use Rattle.std.specs.List.{filter}
use Rattle.wd_http.specs.declared.call.Call.{Call}
use Rattle.wd_http.specs.declared.call.Call.TheVariants.{Read, Write}
use Rattle.wd_http.specs.declared.fault.Failed.{Failed}
use Rattle.wd_http.specs.declared.fault.WriteFault.{WriteFault}
use Rattle.wd_http.specs.declared.fault.WriteFault.TheVariants.{Failed as WriteFailed, Memory as WriteMemory}

-- a connection: the bytes that reads took and those left to come, the bytes that writes took, and
-- the call that failed, if one did
pub record Connection : Type 0 where
  pub took : List ℕ
  pub left : List ℕ
  pub sent : List ℕ
  pub failed : Option Call

-- all bytes that come on it
abbrev pub came : Connection → List ℕ
came c = c.took ++ c.left

-- a connection on which these bytes come, before the first call
abbrev pub fresh : List ℕ → Connection
fresh bytes = record { took = []; left = bytes; sent = []; failed = None }

-- the bytes of the connections to come, whether a connection stands and which (where none stands, one
-- on which nothing comes), and those that were hung up, in order
pub record Talk : Type 0 where
  pub coming : List (List ℕ)
  pub is_open : Bool
  pub here : Connection
  pub past : List Connection

-- the connection that stands, if there is one
abbrev pub standing : Talk → List Connection
standing t = if t.is_open then t.here ∷ [] else []

-- the connections that were given so far, in order
abbrev pub given : Talk → List Connection
given t = t.past ++ standing t

-- whether there is a byte
abbrev pub is_full : List ℕ → Bool
is_full [] = false
is_full (byte ∷ bytes) = true

-- what was sent on these connections, without those on which nothing was
abbrev pub sent_on : List Connection → List (List ℕ)
sent_on connections = filter is_full (map (λ c. c.sent) connections)

-- nothing changes but the connection that stands
pub record Elsewhere (old new : Talk) : Type 0 where
  pub coming : new.coming ≡ old.coming
  pub is_open : new.is_open ≡ old.is_open
  pub past : new.past ≡ old.past

-- the next connection stands, and the one that stood is over
pub record Comes (old new : Talk) : Type 0 where
  pub coming : old.coming ≡ new.here.left ∷ new.coming
  pub is_open : new.is_open ≡ true
  pub here : new.here ≡ fresh new.here.left
  pub past : new.past ≡ old.past ++ standing old

abbrev pub GoesOn : Talk → Talk → Result Bool Failed → Type 0
GoesOn old new (Ok true) = Comes old new
GoesOn old new (Ok false) = (old.coming ≡ []) × (new ≡ old)
GoesOn old new (Err _) = new ≡ old

-- the piece was taken from the front of what was left
pub record Took (old new : Connection) (piece : List ℕ) : Type 0 where
  pub left : old.left ≡ piece ++ new.left
  pub took : new.took ≡ old.took ++ piece
  pub sent : new.sent ≡ old.sent
  pub failed : new.failed ≡ old.failed

-- the piece was sent
pub record Sends (old new : Connection) (piece : List ℕ) : Type 0 where
  pub left : new.left ≡ old.left
  pub took : new.took ≡ old.took
  pub sent : new.sent ≡ old.sent ++ piece
  pub failed : new.failed ≡ old.failed

-- a call failed
pub record Fails (old new : Connection) (call : Call) : Type 0 where
  pub left : new.left ≡ old.left
  pub took : new.took ≡ old.took
  pub sent : new.sent ≡ old.sent
  pub failed : new.failed ≡ Some call

-- at its end, where the buffer isn't empty
abbrev pub EndsAtNothing : ℕ → List ℕ → List ℕ → Type 0
EndsAtNothing n into left = n ≡ 0 → 0 < length into → left ≡ []

abbrev pub Reads : Talk → Talk → List ℕ → Result ℕ Failed → Type 0
Reads old new into (Ok n) = Elsewhere old new × Took old.here new.here (take n into) × EndsAtNothing n into old.here.left
Reads old new into (Err _) = Elsewhere old new × Fails old.here new.here Read

abbrev pub Writes : Talk → Talk → List ℕ → Result ℕ WriteFault → Type 0
Writes old new bytes (Ok n) = Elsewhere old new × Sends old.here new.here (take n bytes)
Writes old new bytes (Err WriteFailed) = Elsewhere old new × Fails old.here new.here Write
Writes old new bytes (Err WriteMemory) = Unit {0}

pub record HangsUp (old new : Talk) : Type 0 where
  pub coming : new.coming ≡ old.coming
  pub is_open : new.is_open ≡ false
  pub here : new.here ≡ fresh []
  pub past : new.past ≡ old.past ++ standing old
