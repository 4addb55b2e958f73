-- What a line in memory keeps true of the list of what was sent.
use Rattle.std.specs.Prelude.{◌≡◌, ℕ, List, [], ◌∷◌, ◌++◌, ◌≤◌, Bool, false, length, map, take, Option, Some, None, IsTrue, slice_index_or}
use Rattle.wd_http.specs.Talk.{Connection, is_full, sent_on}
use Rattle.wd_http.specs.HeldConnection.{HeldConnection, whole, next_of}

-- what was sent on the connection that stands, as the end of the list
abbrev pub last_sent : List (List ℕ) → Option ℕ → List (List ℕ)
last_sent sents None = []
last_sent sents (Some i) = slice_index_or sents i [] ∷ []

-- it stands behind that many others, and isn't empty
abbrev pub IsBehind : ℕ → List (List ℕ) → Option ℕ → Type 0
IsBehind count sents None = Unit {0}
IsBehind count sents (Some i) = (i ≡ count) × IsTrue (is_full (slice_index_or sents i []))

-- The connections that are over sent the front of the list, whatever comes behind it, and the one that
-- stands sent its end.
pub record Kept (before : List Connection) (over : List HeldConnection) (place : Option ℕ) (sents : List (List ℕ)) : Type 0 where
  pub stays : (more : List (List ℕ)) → map (whole (sent_on before ++ more)) over ≡ before
  pub parts : sents ≡ sent_on before ++ last_sent sents place
  pub behind : IsBehind (length (sent_on before)) sents place

-- So it is of those before the place `over`, and the one that stands, which has a place among them.
pub record AreKept (over : ℕ) (is_open : Bool) (entries : List HeldConnection) (here : HeldConnection) (sents : List (List ℕ)) : Type 0 where
  pub within : next_of over is_open ≤ length entries
  pub closed : is_open ≡ false → here.place ≡ None
  pub kept : Kept (map (whole sents) (take over entries)) (take over entries) here.place sents
