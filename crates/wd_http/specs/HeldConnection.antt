-- Connections as a line in memory keeps them.
use Rattle.std.specs.Prelude.{ℕ, ◌+◌, List, [], ◌++◌, Bool, Option, Some, None, slice_index_or, if◌then◌else◌}
use Rattle.wd_http.specs.Talk.{Connection}
use Rattle.wd_http.specs.declared.call.Call.{Call}

-- a connection: the bytes that reads took and those left to come, where the bytes that writes took stand
-- in the list of what was sent, if a write took one, and the call that failed, if one did
pub record HeldConnection : Type 0 where
  pub took : List ℕ
  pub left : List ℕ
  pub place : Option ℕ
  pub failed : Option Call

-- all bytes that come on it
abbrev pub comes_on : HeldConnection → List ℕ
comes_on held = held.took ++ held.left

-- one on which these bytes come, before the first call
abbrev pub untouched : List ℕ → HeldConnection
untouched bytes = record { took = []; left = bytes; place = None; failed = None }

-- the bytes at that place of the list of what was sent, if there is one
abbrev pub sent_at : List (List ℕ) → Option ℕ → List ℕ
sent_at sents None = []
sent_at sents (Some i) = slice_index_or sents i []

-- the connection, with what was sent on it
abbrev pub whole : List (List ℕ) → HeldConnection → Connection
whole sents held = record { took = held.took; left = held.left; sent = sent_at sents held.place; failed = held.failed }

-- where none stands, what is sent goes astray
abbrev pub with_stray : Bool → List (List ℕ) → List ℕ → HeldConnection → Connection
with_stray is_open sents stray held = record {
  took = held.took;
  left = held.left;
  sent = if is_open then sent_at sents held.place else stray;
  failed = held.failed;
}

-- the place of the next connection
abbrev pub next_of : ℕ → Bool → ℕ
next_of over is_open = if is_open then over + 1 else over
