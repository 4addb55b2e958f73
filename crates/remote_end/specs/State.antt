-- What the command machine keeps between requests, and what a command leaves of it.
use Rattle.std.specs.Prelude.{◌≡◌, ◌≤◌, ℕ, ◌+◌, ◌^◌, ◌||◌, ◌==◌, not, nat_lt, List, [], ◌∷◌, ◌++◌, Bool, false, Option, Some, None, length, slice_get, slice_set}
use Rattle.std.specs.List.{position, remove}
use Rattle.std.specs.Str.{encode_utf8_all}
use Rattle.capabilities.specs.Timeouts.{AreInRange}
use Rattle.references.specs.Identifier.{is_text_of}
use Rattle.waits.specs.Moments.{last_moment}
use Rattle.remote_end.specs.declared.session.Session.{Session}

-- the number of the next session, and the open sessions in the order in which they were opened
pub record State : Type 0 where
  pub next : ℕ
  pub sessions : List Session

abbrev pub state_of : ℕ → List Session → State
state_of next sessions = record { next = next; sessions = sessions }

-- before the first session
abbrev pub first_state : State
first_state = record { next = 1; sessions = [] }

-- the most sessions that are open together
abbrev pub session_limit : ℕ
session_limit = 8

-- the number after the last session's
abbrev pub number_limit : ℕ
number_limit = 2 ^ 30

-- no further session can be opened
abbrev pub is_full : State → Bool
is_full state = not (nat_lt (length state.sessions) session_limit) || not (nat_lt state.next number_limit)

-- the session with the identifier of this text
abbrev pub has_identifier : List ℕ → Session → Bool
has_identifier text s = is_text_of s.id (encode_utf8_all text)

-- where the session with that identifier stands among the open ones; None where it isn't open
abbrev pub place_of : List ℕ → List Session → Option ℕ
place_of text sessions = position (has_identifier text) sessions

abbrev pub own_place : Option (List ℕ) → List Session → Option ℕ
own_place None sessions = None
own_place (Some text) sessions = place_of text sessions

abbrev pub at_place : List Session → Option ℕ → Option Session
at_place sessions None = None
at_place sessions (Some i) = slice_get sessions i

-- the open session that a request names
abbrev pub session_named : Option (List ℕ) → List Session → Option Session
session_named text sessions = at_place sessions (own_place text sessions)

-- where the open session with that number stands
abbrev pub place_numbered : ℕ → List Session → Option ℕ
place_numbered number sessions = position (λ (s : Session). s.number == number) sessions

abbrev pub session_numbered : ℕ → List Session → Option Session
session_numbered number sessions = at_place sessions (place_numbered number sessions)

-- What a command leaves of sessions: none is touched, its own stands so, its own has ended, or one more is
-- open. So a command changes no session but its own.
pub data After : Type 0 where
  Same : After
  Leaves : Session → After
  Ends : After
  Opens : Session → After

abbrev pub set_at : List Session → Option ℕ → Session → List Session
set_at sessions None s = sessions
set_at sessions (Some i) s = slice_set sessions i s

abbrev pub without_at : List Session → Option ℕ → List Session
without_at sessions None = sessions
without_at sessions (Some i) = remove sessions i

-- the state after a command that names this session, or none
abbrev pub changed : State → Option (List ℕ) → After → State
changed state own Same = state
changed state own (Leaves s) = record state { sessions = set_at state.sessions (own_place own state.sessions) s }
changed state own Ends = record state { sessions = without_at state.sessions (own_place own state.sessions) }
changed state own (Opens s) = record { next = state.next + 1; sessions = state.sessions ++ s ∷ [] }

-- ---- for private clauses

-- the numbers of the sessions rise from one number, and stay below another
abbrev pub Rise : ℕ → List Session → ℕ → Type 0
Rise low [] next = low ≤ next
Rise low (s ∷ sessions) next = (low ≤ s.number) × Rise (s.number + 1) sessions next

-- no call on what it keeps has wanted memory, its timeouts are at most 2^53 - 1, it has reached no moment
-- after 2^62, and it keeps the page's address
pub record IsWhole (s : Session) : Type 0 where
  pub known : s.known.spent ≡ false
  pub page : s.page.spent ≡ false
  pub timeouts : AreInRange s.matched.timeouts
  pub moment : s.at ≤ last_moment
  pub address : s.page.address ≡ s.address

-- what was done in a session left its number, and what waits in it
pub record IsSameBut (old new : Session) : Type 0 where
  pub number : new.number ≡ old.number
  pub waiting : new.waiting ≡ old.waiting
